-- Connections that come, one after another.
use Rattle.std.proofs.Common.{◌≡◌, ℕ, [], ◌∷◌, Result, Ok, Err, Some, IfOk, arith}
use Rattle.std.proofs.lemmas.Grind.{common_steps}
use Rattle.std.proofs.lemmas.Result.{IfOk-weaker}
use Rattle.futures.specs.Runs.{After, Runs, Within}
use Rattle.futures.proofs.RunLemmas.{Begins-Within}
use Rattle.http_connection.specs.Connections.{HaveCome, IsStillServing, next_count}
use Rattle.http_connection.specs.declared.connections.Connections.{Connections}
use Rattle.http_connection.specs.declared.trouble.ServeTrouble.{ServeTrouble}

module _ {S F J : Type 0} (yields : S → Runs (Result F ServeTrouble)) (old new : Connections S F J) where
  -- what may end later may end now
  pub ends_as_before : new.total ≡ old.total → ((count : ℕ) → HaveCome yields new count → HaveCome yields old count)
      → (r : Result ℕ ServeTrouble) → IfOk r (λ count. (new.total ≡ Some count) × HaveCome yields new count)
      → IfOk r (λ count. (old.total ≡ Some count) × HaveCome yields old count)
  ends_as_before total come r may = IfOk-weaker r _ _ (λ count h. (rw (← total) h.0, come count h.1)) may

  module _ (count : ℕ) (h : HaveCome yields new count) where
    -- nothing was asked for
    pub still_come : IsStillServing old old.begun new → HaveCome yields old count
    still_come same = record {
      arrived = h.arrived;
      came = rw same.arrivals at h.came;
      counted = rw same.begun at h.counted;
    }

    -- nothing came meanwhile
    pub come_later : Within (yields old.arrivals) (yields new.arrivals) → new.begun ≡ old.begun → HaveCome yields old count
    come_later within same = record {
      arrived = h.arrived;
      came = Begins-Within _ _ h.arrived within h.came;
      counted = rw same at h.counted;
    }

    -- a connection came, and has begun
    pub one_came : (connection : F) → yields old.arrivals [] (Some (Ok connection))
        → After (yields old.arrivals) (Ok connection) (yields new.arrivals) → new.begun ≡ next_count old.begun
        → HaveCome yields old count
    one_came connection came after counted = record {
      arrived = Ok connection ∷ h.arrived;
      came = (came, Begins-Within _ _ h.arrived after h.came);
      counted = grind (arith, common_steps, h.counted, counted);
    }

    -- none could come
    pub none_came : (trouble : ServeTrouble) → yields old.arrivals [] (Some (Err trouble))
        → After (yields old.arrivals) (Err trouble) (yields new.arrivals) → new.begun ≡ old.begun
        → HaveCome yields old count
    none_came trouble came after same = record {
      arrived = Err trouble ∷ h.arrived;
      came = (came, Begins-Within _ _ h.arrived after h.came);
      counted = rw same at h.counted;
    }
