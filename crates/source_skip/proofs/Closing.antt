-- The table of where braces close.
use Rattle.std.specs.Prelude.{◌≡◌, ℕ, zero, suc, ◌-◌, ◌≤◌, ◌<◌, Bool, true, false, cond, List, [], ◌∷◌, ◌++◌, map, length, take, drop, Option, None, Some, option_map, option_and_then}
use Rattle.std.proofs.Common.{refl, arith, sym, ap, ◌∙◌, get_or}
use Rattle.std.proofs.lemmas.Grind.{common_steps}
use Rattle.std.proofs.lemmas.List.{drop-map, get_or-map, get_or_append_left, get_or_read, get_or_push, length-map, length_push}
use Rattle.std.proofs.Math.Seq.{drop-cons}
use Rattle.proto_tokens.specs.Token.{Spelled}
use Rattle.source_skip.specs.ProgramTokens.{IsClosing}
use Rattle.source_skip.specs.Shapes.{Braces, behind, closed, is_symbol}
use Rattle.source_skip.proofs.Behind.{IsTail, here, later, TailOf, closed_tail, tail_dropped, tail_within}

-- ---- what a table says

pub record LeftOf (ts : List Spelled) (o : Option (List Spelled)) (left : ℕ) : Type 0 where
  pub within : left ≤ length ts
  pub rest : o ≡ Some (drop (length ts - left) ts)

left_of : (ts : List Spelled) (o : Option (List Spelled)) (left : ℕ) → TailOf ts o → Some left ≡ option_map length o
    → LeftOf ts o left
left_of ts None left k h = cc
left_of ts (Some us) left k h = let e : left ≡ length us = cc in record {
  within = omega (arith, e, tail_within us ts k);
  rest = rw e (ap (λ (x : List Spelled). Some x) (tail_dropped us ts k));
}

whole_rest : {A : Type 0} (k : ℕ) (xs : List A) → k ≤ length xs → take (length xs - k) (drop k xs) ≡ drop k xs
whole_rest k xs h = grind (arith, common_steps)

module _ {A : Type 0} (f : A → Spelled) (closes : List (Option ℕ)) (t : A) (xs : List A) (left : ℕ)
    (table : IsClosing closes (map f (t ∷ xs))) (entry : get_or closes (length xs) None ≡ Some left) where
  told : Some left ≡ option_map length (closed 0 (map f xs))
  told = let e = length-map xs f in let d = table.1 in cc

  left_is : LeftOf (map f xs) (closed 0 (map f xs)) left
  left_is = left_of (map f xs) (closed 0 (map f xs)) left (closed_tail 0 (map f xs)) told

  pub left_within : left ≤ length xs
  left_within = omega (arith, left_is.within, length-map xs f)

  pub braces_behind : is_symbol 123 (f t) ≡ true
      → Some (map f (take (length xs - (length xs - left)) (drop (length xs - left) xs)))
      ≡ behind Braces (map f (t ∷ xs))
  braces_behind opens = rw (opens, whole_rest (length xs - left) xs (omega arith))
      (sym (left_is.rest ∙ ap (λ (x : List Spelled). Some x)
      (ap (λ n. drop (n - left) (map f xs)) (length-map xs f) ∙ drop-map f (length xs - left) xs)))

-- ---- the table is made

pub record ClosesFrom (closes : List (Option ℕ)) (left : Option ℕ) (ts : List Spelled) : Type 0 where
  pub counted : length closes ≡ length ts
  pub table : IsClosing closes ts
  pub here_left : left ≡ option_map length (closed 0 ts)

table_more : (closes : List (Option ℕ)) (x : Option ℕ) (ts : List Spelled) → IsClosing closes ts
    → IsClosing (closes ++ x ∷ []) ts
table_more closes x [] k = tt
table_more closes x (t ∷ ts) (l, e, k) = (
  omega (arith, l, length_push closes x),
  get_or_append_left closes (x ∷ []) None (length ts) l ∙ e,
  table_more closes x ts k,
)

pushed_table : (closes : List (Option ℕ)) (left : Option ℕ) (t : Spelled) (ts : List Spelled)
    → ClosesFrom closes left ts → IsClosing (closes ++ left ∷ []) (t ∷ ts)
pushed_table closes left t ts h = (
  omega (arith, h.counted, length_push closes left),
  get_or_push closes left None (length ts) h.counted ∙ h.here_left,
  table_more closes left ts h.table,
)

-- one more open brace is one more to close
then_cond : (g : List Spelled → Option (List Spelled)) (o c : Bool) (x y z u v w : Option (List Spelled))
    → x ≡ option_and_then g u → y ≡ option_and_then g v → z ≡ option_and_then g w
    → cond o x (cond c y z) ≡ option_and_then g (cond o u (cond c v w))
then_cond g true c x y z u v w p q r = p
then_cond g false true x y z u v w p q r = q
then_cond g false false x y z u v w p q r = r

closed_more : (n : ℕ) (ts : List Spelled) → closed (suc n) ts ≡ option_and_then (closed 0) (closed n ts)
closed_more n [] = refl
closed_more zero (t ∷ ts) = then_cond (closed 0) (is_symbol 123 t) (is_symbol 125 t) (closed 2 ts) (closed 0 ts)
    (closed 1 ts) (closed 1 ts) (Some ts) (closed 0 ts) (closed_more 1 ts) refl (closed_more 0 ts)
closed_more (suc n) (t ∷ ts) = then_cond (closed 0) (is_symbol 123 t) (is_symbol 125 t) (closed (suc (suc (suc n))) ts)
    (closed (suc n) ts) (closed (suc (suc n)) ts) (closed (suc (suc n)) ts) (closed n ts) (closed (suc n) ts)
    (closed_more (suc (suc n)) ts) (closed_more n ts) (closed_more (suc n) ts)

entry_at : (closes : List (Option ℕ)) (us ts : List Spelled) → IsTail us ts → length us < length ts
    → IsClosing closes ts → get_or closes (length us) None ≡ option_map length (closed 0 us)
entry_at closes us _ here l k = absurd (omega (arith, l))
entry_at closes us _ (later here) l (_, e, _) = e
entry_at closes us (t ∷ s ∷ ts) (later (later n)) l (_, _, k) =
    entry_at closes us (s ∷ ts) (later n) (omega (arith, tail_within us ts n)) k

module _ (closes : List (Option ℕ)) (left : Option ℕ) (t : Spelled) (ts : List Spelled)
    (from : ClosesFrom closes left ts) where
  stepped : (next : Option ℕ) → next ≡ option_map length (closed 0 (t ∷ ts))
      → ClosesFrom (closes ++ left ∷ []) next (t ∷ ts)
  stepped next e = record {
    counted = omega (arith, from.counted, length_push closes left);
    table = pushed_table closes left t ts from;
    here_left = e;
  }

  opened : (o : Option (List Spelled)) (k : ℕ) → TailOf ts o → Some k ≡ option_map length o
      → get_or (closes ++ left ∷ []) k None ≡ option_map length (option_and_then (closed 0) o)
  opened None k l h = cc
  opened (Some us) k l h = let e : k ≡ length us = cc in rw e (entry_at (closes ++ left ∷ []) us (t ∷ ts) (later l)
      (omega (arith, tail_within us ts l)) (pushed_table closes left t ts from))

  pub step_opens : (k : ℕ) → is_symbol 123 t ≡ true → left ≡ Some k
      → ClosesFrom (closes ++ left ∷ []) (get_or (closes ++ left ∷ []) k None) (t ∷ ts)
  step_opens k o h = stepped (get_or (closes ++ left ∷ []) k None) (rw (o, closed_more 0 ts)
      (opened (closed 0 ts) k (closed_tail 0 ts) (sym h ∙ from.here_left)))

  none_by : (o : Option (List Spelled)) → None ≡ option_map length o
      → None ≡ option_map length (option_and_then (closed 0) o)
  none_by None h = refl
  none_by (Some us) h = cc

  pub step_never : is_symbol 123 t ≡ true → left ≡ None → ClosesFrom (closes ++ left ∷ []) None (t ∷ ts)
  step_never o h = stepped None (rw (o, closed_more 0 ts) (none_by (closed 0 ts) (sym h ∙ from.here_left)))

  pub step_closes : is_symbol 123 t ≡ false → is_symbol 125 t ≡ true
      → ClosesFrom (closes ++ left ∷ []) (Some (length closes)) (t ∷ ts)
  step_closes o c = stepped (Some (length closes)) (rw (o, c, from.counted) refl)

  pub step_other : is_symbol 123 t ≡ false → is_symbol 125 t ≡ false
      → ClosesFrom (closes ++ left ∷ []) left (t ∷ ts)
  step_other o c = stepped left (rw (o, c) from.here_left)

short_by : (ts : List Spelled) (o : Option (List Spelled)) (k : ℕ) → TailOf ts o → Some k ≡ option_map length o
    → k ≤ length ts
short_by ts None k l h = cc
short_by ts (Some us) k l h = let e : k ≡ length us = cc in omega (arith, e, tail_within us ts l)

pub pushed_within : (closes new : List (Option ℕ)) (left : Option ℕ) (ts : List Spelled) → ClosesFrom closes left ts
    → new ≡ closes ++ left ∷ [] → (k : ℕ) → left ≡ Some k → k < length new
pushed_within closes new left ts from pushed k h = rw pushed (omega (
  arith,
  from.counted,
  length_push closes left,
  short_by ts (closed 0 ts) k (closed_tail 0 ts) (sym h ∙ from.here_left),
))

-- ---- one place before

module _ {A : Type 0} (f : A → Spelled) (xs : List A) (at : ℕ) (d : A) (closes new : List (Option ℕ)) (left : Option ℕ)
    (some : 0 < at) (from : (at ≤ length xs) × ClosesFrom closes left (drop at (map f xs)))
    (pushed : new ≡ closes ++ left ∷ []) where
  before_place : drop (at - 1) (map f xs) ≡ f (get_or xs (at - 1) d) ∷ drop at (map f xs)
  before_place =
      let l : at - 1 < length (map f xs) = omega (arith, length-map xs f, from.0) in
      let e : suc (at - 1) ≡ at = omega arith in
      let g : get_or (map f xs) (at - 1) (f d) ≡ f (get_or xs (at - 1) d) =
      get_or-map f xs (at - 1) d (f d) (omega (arith, from.0)) in
      drop-cons (map f xs) (at - 1) (f d) l ∙ rw (g, e) refl

  placed : (next : Option ℕ) → ClosesFrom (closes ++ left ∷ []) next (f (get_or xs (at - 1) d) ∷ drop at (map f xs))
      → (at - 1 ≤ length xs) × ClosesFrom new next (drop (at - 1) (map f xs))
  placed next k = (omega (arith, from.0), rw (pushed, before_place) k)

  pub placed_opens : (k : ℕ) (v : Option ℕ) → is_symbol 123 (f (get_or xs (at - 1) d)) ≡ true → left ≡ Some k
      → v ≡ get_or new k v → (at - 1 ≤ length xs) × ClosesFrom new v (drop (at - 1) (map f xs))
  placed_opens k v o h g =
      let l = pushed_within closes new left (drop at (map f xs)) from.1 pushed k h in
      placed v (rw (get_or_read new k v l g None, pushed)
      (step_opens closes left (f (get_or xs (at - 1) d)) (drop at (map f xs)) from.1 k o h))

  pub placed_never : is_symbol 123 (f (get_or xs (at - 1) d)) ≡ true → left ≡ None
      → (at - 1 ≤ length xs) × ClosesFrom new None (drop (at - 1) (map f xs))
  placed_never o h = placed None (step_never closes left (f (get_or xs (at - 1) d)) (drop at (map f xs)) from.1 o h)

  pub placed_closes : is_symbol 123 (f (get_or xs (at - 1) d)) ≡ false
      → is_symbol 125 (f (get_or xs (at - 1) d)) ≡ true
      → (at - 1 ≤ length xs) × ClosesFrom new (Some (length closes)) (drop (at - 1) (map f xs))
  placed_closes o c = placed (Some (length closes))
      (step_closes closes left (f (get_or xs (at - 1) d)) (drop at (map f xs)) from.1 o c)

  pub placed_other : is_symbol 123 (f (get_or xs (at - 1) d)) ≡ false
      → is_symbol 125 (f (get_or xs (at - 1) d)) ≡ false
      → (at - 1 ≤ length xs) × ClosesFrom new left (drop (at - 1) (map f xs))
  placed_other o c = placed left (step_other closes left (f (get_or xs (at - 1) d)) (drop at (map f xs)) from.1 o c)
