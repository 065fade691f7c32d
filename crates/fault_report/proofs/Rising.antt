-- Lists in the order of a number of their elements.
use Rattle.std.proofs.Common.{◌≡◌, ◌∙◌, sym, ap, refl, eq-eqb, ℕ, ◌<◌, ◌≤◌, zero, suc, Bool, true, false, cond, eqb, ltb, List, [], ◌∷◌, Option, Some, None, arith, inl, inr, get_or, length}
use Rattle.std.proofs.lemmas.Bool.{ltb-true, ltb-false, ne_eqb}
use Rattle.std.proofs.lemmas.Bool.Decides.{eqb_tells}
use Rattle.std.proofs.lemmas.Option.{slice_get-get_or, slice_get_past}
use Rattle.std.proofs.lemmas.List.Sorted.{IsPartitionedBy-ltb}
use Rattle.std.proofs.lemmas.List.Sums.{sum_by-cons}
use Rattle.std.specs.List.{count_by, find, slice_get}
use Rattle.std.specs.List.Sorted.{IsNonDecreasingBy, IsPartitionedBy, IsPartitionPoint}

-- no element has a number below the lowest, and none a lower one than those before it
pub record Rises {X : Type 0} (n : X → ℕ) (low : ℕ) (xs : List X) : Type 0 where
  pub above : (i : ℕ) (d : X) → i < length xs → low ≤ n (get_or xs i d)
  pub order : IsNonDecreasingBy n xs

pub rises_none : {X : Type 0} (n : X → ℕ) (low : ℕ) → Rises n low []
rises_none n low = record { above = λ i d h. absurd (omega arith); order = λ i j d le h. absurd (omega arith) }

pub rises_from : {X : Type 0} (n : X → ℕ) (low high : ℕ) (xs : List X) → low ≤ high → Rises n high xs → Rises n low xs
rises_from n low high xs le rises = record {
  above = λ i d h. let from : high ≤ n (get_or xs i d) = rises.above i d h in omega arith;
  order = rises.order;
}

above_more : {X : Type 0} (n : X → ℕ) (low : ℕ) (x : X) (xs : List X) → low ≤ n x → Rises n (n x) xs
    → (i : ℕ) (d : X) → i < length (x ∷ xs) → low ≤ n (get_or (x ∷ xs) i d)
above_more n low x xs le rises zero d h = le
above_more n low x xs le rises (suc i) d h = let from : n x ≤ n (get_or xs i d) = rises.above i d (omega arith) in omega arith

order_more : {X : Type 0} (n : X → ℕ) (x : X) (xs : List X) → Rises n (n x) xs
    → (i j : ℕ) (d : X) → i ≤ j → j < length (x ∷ xs) → n (get_or (x ∷ xs) i d) ≤ n (get_or (x ∷ xs) j d)
order_more n x xs rises zero j d le h = above_more n (n x) x xs (omega arith) rises j d h
order_more n x xs rises (suc i) zero d le h = absurd (omega arith)
order_more n x xs rises (suc i) (suc j) d le h = rises.order i j d (omega arith) (omega arith)

pub rises_more : {X : Type 0} (n : X → ℕ) (low : ℕ) (x : X) (xs : List X) → low ≤ n x → Rises n (n x) xs → Rises n low (x ∷ xs)
rises_more n low x xs le rises = record {
  above = above_more n low x xs le rises;
  order = order_more n x xs rises;
}

-- a test that passes up to a position and fails from it on
abbrev pub PartsAt : {X : Type 0} → (X → Bool) → List X → ℕ → Type 0
PartsAt p xs at = IsPartitionPoint (λ y. p y ≡ true) (λ y. p y ≡ false) xs at

parts_behind : {X : Type 0} (p : X → Bool) (x : X) (xs : List X) (at : ℕ) → PartsAt p (x ∷ xs) (suc at) → PartsAt p xs at
parts_behind p x xs at (before, behind) = (
  λ k d low high. before (suc k) d (omega arith) (omega arith),
  λ k d low high. behind (suc k) d (omega arith) (omega arith),
)

parts_none : {X : Type 0} (p : X → Bool) (x : X) (xs : List X) → PartsAt p (x ∷ xs) zero → PartsAt p xs zero
parts_none p x xs (before, behind) = (
  λ k d low high. absurd (omega arith),
  λ k d low high. behind (suc k) d (omega arith) (omega arith),
)

-- so many elements pass it
pub count_parted : {X : Type 0} (p : X → Bool) (xs : List X) (at : ℕ) → at ≤ length xs → PartsAt p xs at → count_by p xs ≡ at
count_parted p [] at within parts = omega arith
count_parted p (x ∷ xs) zero within parts =
    let rest : count_by p xs ≡ 0 = count_parted p xs zero (omega arith) (parts_none p x xs parts) in
    sum_by-cons (λ y. cond (p y) 1 0) x xs ∙ rw (parts.1 zero x (omega arith) (omega arith)) (omega arith)
count_parted p (x ∷ xs) (suc at) within parts =
    let rest : count_by p xs ≡ at = count_parted p xs at (omega arith) (parts_behind p x xs at parts) in
    sum_by-cons (λ y. cond (p y) 1 0) x xs ∙ rw (parts.0 zero x (omega arith) (omega arith)) (omega arith)

-- the element whose number is this one, if it is this element
abbrev pub with_number : {X : Type 0} → (X → ℕ) → ℕ → Option X → Option X
with_number n m None = None
with_number n m (Some x) = cond (eqb (n x) m) (Some x) None

rises_behind : {X : Type 0} (n : X → ℕ) (low : ℕ) (x : X) (xs : List X) → Rises n low (x ∷ xs) → Rises n (n x) xs
rises_behind n low x xs rises = record {
  above = λ i d h. rises.order zero (suc i) d (omega arith) (omega arith);
  order = λ i j d le h. rises.order (suc i) (suc j) d (omega arith) (omega arith);
}

none_above : {X : Type 0} (n : X → ℕ) (m low : ℕ) (xs : List X) → m < low → Rises n low xs → find (λ x. eqb (n x) m) xs ≡ None
none_above n m low [] less rises = refl
none_above n m low (x ∷ xs) less rises =
    let from : low ≤ n x = rises.above zero x (omega arith) in
    rw (ne_eqb (n x) m (omega arith)) (none_above n m (n x) xs (omega arith) (rises_behind n low x xs rises))

-- the first element with a number is the one behind all lower ones, if that has it
pub found_parted : {X : Type 0} (n : X → ℕ) (m low : ℕ) (xs : List X) (at : ℕ) → Rises n low xs
    → PartsAt (λ x. ltb (n x) m) xs at
    → find (λ x. eqb (n x) m) xs ≡ with_number n m (slice_get xs at)
found_parted n m low [] at rises parts = refl
found_parted n m low (x ∷ xs) zero rises parts =
    let from : m ≤ n x = ltb-false (n x) m (parts.1 zero x (omega arith) (omega arith)) in
    elim (eqb_tells (n x) m) [
      | inl (has, is) ↦ rw has refl
      | inr (lacks, other) ↦ rw lacks (none_above n m (n x) xs (omega arith) (rises_behind n low x xs rises))
    ]
found_parted n m low (x ∷ xs) (suc at) rises parts =
    let less : n x < m = ltb-true (n x) m (parts.0 zero x (omega arith) (omega arith)) in
    rw (ne_eqb (n x) m (omega arith))
    (found_parted n m (n x) xs at (rises_behind n low x xs rises) (parts_behind (λ y. ltb (n y) m) x xs at parts))

-- what is found by the position at which lower elements end
module _ {X : Type 0} (n : X → ℕ) (m : ℕ) (xs : List X) (at : ℕ) (order : IsNonDecreasingBy n xs)
    (parts : IsPartitionedBy (λ x. ltb (n x) m) xs → PartsAt (λ x. ltb (n x) m) xs at) where
  all_rise : Rises n 0 xs
  all_rise = record { above = λ i d h. omega arith; order = order }

  found : find (λ x. eqb (n x) m) xs ≡ with_number n m (slice_get xs at)
  found = found_parted n m 0 xs at all_rise (parts (IsPartitionedBy-ltb n xs m order))

  here : (x : X) → true ≡ ltb at (length xs) → x ≡ get_or xs at x → slice_get xs at ≡ Some x
  here x within is = slice_get-get_or xs at x (ltb-true at (length xs) (sym within)) ∙ ap Some (sym is)

  pub found_here : (x : X) → true ≡ ltb at (length xs) → x ≡ get_or xs at x → n x ≡ m
      → Some x ≡ find (λ y. eqb (n y) m) xs
  found_here x within is same = sym (found ∙ ap (with_number n m) (here x within is) ∙ rw (eq-eqb (n x) m same) refl)

  pub found_other : (x : X) → true ≡ ltb at (length xs) → x ≡ get_or xs at x → (n x ≡ m → ⊥)
      → None ≡ find (λ y. eqb (n y) m) xs
  found_other x within is other = sym (found ∙ ap (with_number n m) (here x within is) ∙ rw (ne_eqb (n x) m other) refl)

  pub found_past : false ≡ ltb at (length xs) → None ≡ find (λ y. eqb (n y) m) xs
  found_past past =
      sym (found ∙ ap (with_number n m) (slice_get_past xs at (ltb-false at (length xs) (sym past))))
