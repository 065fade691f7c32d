-- What stands at the front of tokens, one front after the other.
use Rattle.std.specs.Prelude.{◌≡◌, ℕ, zero, suc, ◌+◌, ◌≤◌, ◌<◌, Bool, true, false, cond, List, [], ◌∷◌, ◌++◌, map, length, Option, None, Some, option_map, option_and_then, unwrap_or}
use Rattle.std.proofs.Common.{refl, arith, sym, ap, ◌∙◌, append_assoc, append-nil}
use Rattle.std.proofs.lemmas.List.{length-map, map-append}
use Rattle.std.specs.Option.{option_map_or, option_or}
use Rattle.proto_tokens.specs.Token.{Spelled}
use Rattle.source_skip.specs.ProgramFronts.{front_of as spelled_front}
use Rattle.source_skip.specs.ProgramTokens.{IsClosing, span_of, spelled}
use Rattle.source_skip.specs.declared.gone.Front as rust
use Rattle.source_skip.specs.declared.token.Span.{Span}
use Rattle.source_skip.specs.Shapes.{behind, is_symbol, statement, symbol, weak}
use Rattle.source_skip.specs.Skipped.{Brackets, Entry, Front, brackets, brackets_front, entry_of, front_of, goes, goes_from, start_front, statement_front, token_front, weak_front, with_entry}
use Rattle.source_skip.proofs.Behind.{IsTail, here, later, ShorterOf, TailOf, behind_shorter, behind_tail, closing_tail, tail_tail, tail_within}
use Rattle.source_skip.proofs.Entries.{EntryTail, entry_tail}

-- ---- what stands behind a front is a shorter tail

pub record IsRest (us ts : List Spelled) : Type 0 where
  pub tail : IsTail us ts
  pub shorter : length us < length ts

abbrev pub FrontRest : List Spelled → Option Front → Type 0
FrontRest ts None = Unit {0}
FrontRest ts (Some f) = IsRest f.rest ts

abbrev BracketsRest : List Spelled → Option Brackets → Type 0
BracketsRest ts None = Unit {0}
BracketsRest ts (Some b) = IsRest b.rest ts

module _ (ts : List Spelled) where
  front_or : (a b : Option Front) → FrontRest ts a → FrontRest ts b → FrontRest ts (option_or a b)
  front_or None b k l = l
  front_or (Some f) b k l = k

  front_cond : (start : Bool) (a : Option Front) → FrontRest ts a → FrontRest ts (cond start a None)
  front_cond true a k = k
  front_cond false a k = tt

  front_by : (f : List Spelled → Front) (o : Option (List Spelled)) → TailOf ts o → ShorterOf ts o
      → ((us : List Spelled) → (f us).rest ≡ us) → FrontRest ts (option_map f o)
  front_by f None k l e = tt
  front_by f (Some us) k l e = rw (e us) (record { tail = k; shorter = l })

  front_of_brackets : (f : Brackets → Front) (o : Option Brackets) → BracketsRest ts o
      → ((b : Brackets) → (f b).rest ≡ b.rest) → FrontRest ts (option_map f o)
  front_of_brackets f None k e = tt
  front_of_brackets f (Some b) k e = rw (e b) k

rest_rest : (us vs ts : List Spelled) → IsTail us vs → IsRest vs ts → IsRest us ts
rest_rest us vs ts k r = record {
  tail = tail_tail us vs ts k r.tail;
  shorter = omega (arith, tail_within us vs k, r.shorter);
}

module _ (ts : List Spelled) (e : Entry) (r : IsRest e.rest ts) where
  close_by : (o : Option (List Spelled)) → TailOf e.rest o
      → BracketsRest ts (option_map (λ rest. record { entries = e ∷ []; rest = rest }) o)
  close_by None k = tt
  close_by (Some us) k = rest_rest us e.rest ts k r

  more_by : (o : Option Brackets) → BracketsRest e.rest o
      → BracketsRest ts (option_map (λ b. record { entries = e ∷ b.entries; rest = b.rest }) o)
  more_by None k = tt
  more_by (Some b) k = rest_rest b.rest e.rest ts k.tail r

  brackets_or : (a b : Option Brackets) → BracketsRest ts a → BracketsRest ts b → BracketsRest ts (option_or a b)
  brackets_or None b k l = l
  brackets_or (Some c) b k l = k

  with_entry_rest : (more : Option Brackets) → BracketsRest e.rest more → BracketsRest ts (with_entry e more)
  with_entry_rest more k = brackets_or
      (option_map (λ rest. record { entries = e ∷ []; rest = rest }) (behind (symbol "]") e.rest))
      (option_map (λ b. record { entries = e ∷ b.entries; rest = b.rest }) more)
      (close_by (behind (symbol "]") e.rest) (behind_tail (symbol "]") e.rest)) (more_by more k)

entry_then : (most : ℕ) (t : Spelled) (ts : List Spelled) (o : Option Entry) → EntryTail ts o
    → ((us : List Spelled) → BracketsRest us (brackets most 44 us))
    → BracketsRest (t ∷ ts) (option_and_then (λ e. with_entry e (brackets most 44 e.rest)) o)
entry_then most t ts None k r = tt
entry_then most t ts (Some e) k r = with_entry_rest (t ∷ ts) e
    (record { tail = later k; shorter = omega (arith, tail_within e.rest ts k) }) (brackets most 44 e.rest) (r e.rest)

cond_rest : (ts : List Spelled) (b : Bool) (o : Option Brackets) → BracketsRest ts o → BracketsRest ts (cond b o None)
cond_rest ts true o k = k
cond_rest ts false o k = tt

brackets_rest : (most mark : ℕ) (ts : List Spelled) → BracketsRest ts (brackets most mark ts)
brackets_rest zero mark ts = tt
brackets_rest (suc most) mark [] = tt
brackets_rest (suc most) mark (t ∷ ts) = cond_rest (t ∷ ts) (is_symbol mark t)
    (option_and_then (λ e. with_entry e (brackets most 44 e.rest)) (entry_of t ts))
    (entry_then most t ts (entry_of t ts) (entry_tail t ts) (brackets_rest most 44))

token_rest : (ts : List Spelled) → FrontRest ts (token_front ts)
token_rest [] = tt
token_rest (t ∷ ts) = record { tail = later here; shorter = omega arith }

pub front_rest : (start : Bool) (ts : List Spelled) → FrontRest ts (front_of start ts)
front_rest start ts = front_or ts (start_front start ts) (option_or (brackets_front ts) (token_front ts))
    (front_cond ts start (option_or (statement_front ts) (weak_front ts))
    (front_or ts (statement_front ts) (weak_front ts)
    (front_by ts _ (behind statement ts) (behind_tail statement ts) (behind_shorter statement (tt, tt) ts) (λ us. refl))
    (front_by ts _ (behind weak ts) (behind_tail weak ts) (behind_shorter weak tt ts) (λ us. refl))))
    (front_or ts (brackets_front ts) (token_front ts)
    (front_of_brackets ts _ (brackets (length ts) 91 ts) (brackets_rest (length ts) 91 ts) (λ b. refl)) (token_rest ts))

pub rest_front : (start : Bool) (ts : List Spelled) (f : Front) → Some f ≡ front_of start ts → IsRest f.rest ts
rest_front start ts f h = rw (sym h) at (front_rest start ts)

-- ---- one front after the other

abbrev FitsIn : ℕ → List (Option ℕ) → Option Front → Type 0
FitsIn most closes None = Unit {0}
FitsIn most closes (Some f) = (length f.rest ≤ most) × IsClosing closes f.rest

abbrev gone_from : ℕ → Option Front → List Spelled
gone_from most o = unwrap_or (option_map (λ f. f.gone ++ goes_from most f.starts f.rest) o) []

-- what goes is what goes of the fronts so far and of those that are still to come
pub record SpansGoOn (closes : List (Option ℕ)) (all : List Spelled) (spans : List Span)
    (next : Option Front) : Type 0 where
  pub most : ℕ
  pub fits : FitsIn most closes next
  pub same : map span_of (goes all) ≡ spans ++ map span_of (gone_from most next)

fits_rest : (closes : List (Option ℕ)) (most : ℕ) (ts : List Spelled) (o : Option Front) → IsClosing closes ts
    → length ts ≤ suc most → FrontRest ts o → FitsIn most closes o
fits_rest closes most ts None k l r = tt
fits_rest closes most ts (Some f) k l r = (omega (arith, r.shorter, l), closing_tail closes f.rest ts r.tail k)

record Unfolds (closes : List (Option ℕ)) (m : ℕ) (start : Bool) (ts : List Spelled) : Type 0 where
  most : ℕ
  fits : FitsIn most closes (front_of start ts)
  same : goes_from m start ts ≡ gone_from most (front_of start ts)

no_front : (start : Bool) → front_of start [] ≡ None
no_front true = refl
no_front false = refl

fits_none : (closes : List (Option ℕ)) (o : Option Front) → o ≡ None → FitsIn 0 closes o
fits_none closes o h = rw h tt

unfolds : (closes : List (Option ℕ)) (m : ℕ) (start : Bool) (ts : List Spelled) → length ts ≤ m → IsClosing closes ts
    → Unfolds closes m start ts
unfolds closes zero start [] l k = record {
  most = 0;
  fits = fits_none closes (front_of start []) (no_front start);
  same = sym (ap (gone_from 0) (no_front start));
}
unfolds closes zero start (t ∷ ts) l k = absurd (omega (arith, l))
unfolds closes (suc m) start ts l k = record {
  most = m;
  fits = fits_rest closes m ts (front_of start ts) k l (front_rest start ts);
  same = refl;
}

module _ (closes : List (Option ℕ)) (all : List Spelled) where
  pub spans_start : (spans : List Span) (next : Option Front) → IsClosing closes all → spans ≡ []
      → next ≡ front_of true all → SpansGoOn closes all spans next
  spans_start spans next k e h =
      let u : Unfolds closes (length all) true all = unfolds closes (length all) true all (omega arith) k in
      rw (h, e) (record { most = u.most; fits = u.fits; same = ap (map span_of) u.same })

  pub spans_table : (spans : List Span) (f : Front) → SpansGoOn closes all spans (Some f) → IsClosing closes f.rest
  spans_table spans f g = g.fits.1

  pub spans_more : (spans new : List Span) (f : Front) (next : Option Front) → SpansGoOn closes all spans (Some f)
      → new ≡ spans ++ map span_of f.gone → next ≡ front_of f.starts f.rest → SpansGoOn closes all new next
  spans_more spans new f next g e h =
      let u : Unfolds closes g.most f.starts f.rest = unfolds closes g.most f.starts f.rest g.fits.0 g.fits.1 in
      rw (h, e) (record {
        most = u.most;
        fits = u.fits;
        same = g.same ∙ rw (map-append, u.same) (sym (append_assoc spans (map span_of f.gone) _));
      })

  pub spans_end : (spans : List Span) → SpansGoOn closes all spans None → spans ≡ map span_of (goes all)
  spans_end spans g = sym (g.same ∙ append-nil spans)

pub front_smaller : (o p : Option rust.Front) (f : rust.Front)
    → option_map spelled_front o ≡ front_of f.starts (map spelled f.rest.now) → p ≡ Some f
    → option_map_or (λ g. length g.rest.now + 1) o 0 < option_map_or (λ g. length g.rest.now + 1) p 0
front_smaller None p f h e = rw e (omega arith)
front_smaller (Some g) p f h e =
    let r : IsRest (map spelled g.rest.now) (map spelled f.rest.now) =
    rest_front f.starts (map spelled f.rest.now) (spelled_front g) h in
    rw e (omega (arith, r.shorter, length-map g.rest.now spelled, length-map f.rest.now spelled))
