-- Words on the connections that are open.
use Rattle.std.specs.Prelude.{◌≡◌, ◌≢◌, ℕ, ◌+◌, ◌-◌, ◌^◌, ◌<◌, List, count_by, false, is_ok, min, Some, Result, IfOk}
use Rattle.futures.specs.Queued.{AllPollable, set_len, set_places}
use Rattle.futures.specs.Runs.{AllItems, Begins, Runs}
use Rattle.http_connection.specs.declared.connections.Connections.{Connections}
use Rattle.http_connection.specs.declared.trouble.ServeTrouble.{ServeTrouble}

-- what arrives may be asked for, each connection that arrives or is open may be polled, and some may be open
abbrev pub CanServe : {S F J : Type 0} → (S → Type 0) → (S → Runs (Result F ServeTrouble)) → (F → Type 0)
    → Connections S F J → Type 0
CanServe can_arrive yields can_poll c =
    (0 < c.most) × can_arrive c.arrivals × AllItems (yields c.arrivals) (λ item. IfOk item can_poll)
    × AllPollable can_poll (set_places c.running)

-- a count that is one higher, up to the highest
abbrev pub next_count : ℕ → ℕ
next_count n = min (n + 1) (2 ^ 64 - 1)

-- so many have begun, and what arrives and with how many it ends is as before
pub record IsStillServing {S F J : Type 0} (old : Connections S F J) (count : ℕ) (new : Connections S F J) : Type 0 where
  pub arrivals : new.arrivals ≡ old.arrivals
  pub begun : new.begun ≡ count
  pub total : new.total ≡ old.total
  pub most : new.most ≡ old.most

-- so many have come, with those that come from now on
pub record HaveCome {S F J : Type 0} (yields : S → Runs (Result F ServeTrouble)) (c : Connections S F J) (count : ℕ) : Type 0 where
  pub arrived : List (Result F ServeTrouble)
  pub came : Begins (yields c.arrivals) arrived
  pub counted : count ≡ min (c.begun + count_by is_ok arrived) (2 ^ 64 - 1)

module _ {S F J : Type 0} (c : Connections S F J) where
  -- it waits for one more to arrive
  abbrev pub IsListening : Type 0
  IsListening = (c.total ≢ Some c.begun) × (c.is_refused ≡ false) × (set_len c.running < c.most)

  -- the source that fires for those that are open
  abbrev pub running_source : ℕ → Type 0
  running_source s = s ≡ c.running.tasks.source.id
