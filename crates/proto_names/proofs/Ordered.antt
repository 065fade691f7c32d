-- The order of names by their hashes, then byte by byte from their ends on, and occurrences in this order.
use Rattle.proto_names.proofs.Common.{common_steps, ◌≡◌, ◌≢◌, ◌∙◌, sym, ap, ℕ, ◌<◌, ◌≤◌, List, length, arith, refl, inl, inr, ◌⊎◌, Ordering, Less, Equal, Greater, false, [], ◌∷◌, ◌++◌, ◌↔◌, IsTrue, slice_cmp, nat_cmp, is_eq, is_lt, ordering_index, ordering_then, nat_tests, ranks_by, sorted_far, exact_bytes, hash_of, Occurrence, IsNoLater, AreInHashOrder, AreInOrder, name_cmp, occurrence_cmp, at, blank}
use Rattle.std.specs.Cmp.{IsTotalOrder}
use Rattle.std.specs.Prelude.{reverse}
use Rattle.std.proofs.lemmas.Cmp.{nat_cmp_total, nat_list_cmp_total, then_total, on_total, tied_itself}
use Rattle.std.proofs.lemmas.List.{reverse-append, reverse-reverse}
use Rattle.proto_names.specs.Order.{end_cmp}

-- ---- orderings

-- what an ordering is, by its number
pub order_tells : (o : Ordering) → ((ordering_index o ≡ 0) × (o ≡ Less))
    ⊎ (((ordering_index o ≡ 1) × (o ≡ Equal)) ⊎ ((ordering_index o ≡ 2) × (o ≡ Greater)))
order_tells Less = inl (refl, refl)
order_tells Equal = inr (inl (refl, refl))
order_tells Greater = inr (inr (refl, refl))

-- what comes first decides unless it is `Equal`
pub first_not : (o p : Ordering) → is_lt (ordering_then o p) ≡ false → is_lt o ≡ false
first_not o p h = grind (arith, order_tells o)

pub then_then : (o p q : Ordering) → ordering_then o (ordering_then p q) ≡ ordering_then (ordering_then o p) q
then_then o p q = grind (arith, order_tells o)

-- ---- texts from their ends on

pub end_total : IsTotalOrder end_cmp
unfolding end_cmp
end_total = on_total reverse nat_list_cmp_total

pub exact_ends : (a b : List ℕ) → end_cmp a b ≡ Equal → a ≡ b
unfolding end_cmp
exact_ends a b e = sym (reverse-reverse a) ∙ ap reverse (exact_bytes (reverse a) (reverse b) e) ∙ reverse-reverse b

pub ends_itself : (a b : List ℕ) → a ≡ b → end_cmp a b ≡ Equal
ends_itself a b e = rw e (tied_itself end_total b)

-- texts are equal in this order where their bytes are
pub ends_equal : (a b : List ℕ) → IsTrue (is_eq (end_cmp a b)) ↔ (a ≡ b)
ends_equal a b = grind (arith, order_tells (end_cmp a b), exact_ends a b, ends_itself a b)

reversed_push : (a : List ℕ) (x : ℕ) → reverse (a ++ x ∷ []) ≡ x ∷ reverse a
reversed_push a x = reverse-append a (x ∷ [])

pub ends_more : (a b : List ℕ) (x : ℕ) → end_cmp (a ++ x ∷ []) (b ++ x ∷ []) ≡ end_cmp a b
unfolding end_cmp
ends_more a b x = rw (reversed_push a x, reversed_push b x, tied_itself nat_cmp_total x) refl

slices_alike : (c a b : List ℕ) → slice_cmp nat_cmp (c ++ a) (c ++ b) ≡ slice_cmp nat_cmp a b
slices_alike [] a b = refl
slices_alike (x ∷ c) a b = rw (tied_itself nat_cmp_total x) (slices_alike c a b)

-- what both end with tells nothing
pub ends_alike : (a b c : List ℕ) → end_cmp (a ++ c) (b ++ c) ≡ end_cmp a b
unfolding end_cmp
ends_alike a b c = rw (reverse-append a c, reverse-append b c) (slices_alike (reverse c) (reverse a) (reverse b))

pub ends_differ : (a b : List ℕ) (x y : ℕ) → x ≢ y → end_cmp (a ++ x ∷ []) (b ++ y ∷ []) ≡ nat_cmp x y
unfolding end_cmp
ends_differ a b x y other = rw (reversed_push a x, reversed_push b y)
    (grind (arith, order_tells (nat_cmp x y), nat_tests))

pub ends_longer : (a : List ℕ) (x : ℕ) → end_cmp (a ++ x ∷ []) [] ≡ Greater
unfolding end_cmp
ends_longer a x = rw (reversed_push a x) refl

pub ends_shorter : (b : List ℕ) (y : ℕ) → end_cmp [] (b ++ y ∷ []) ≡ Less
unfolding end_cmp
ends_shorter b y = rw (reversed_push b y) refl

-- ---- names

pub name_total : IsTotalOrder name_cmp
name_total = then_total (on_total hash_of nat_cmp_total) end_total

pub equal_alike : (a b : List ℕ) → is_eq (name_cmp a b) ≡ is_eq (end_cmp a b)
equal_alike a b =
    let hashes = order_tells (nat_cmp (hash_of a) (hash_of b)) in
    let bytes = order_tells (end_cmp a b) in
    grind (arith, hashes, bytes, exact_ends a b, tied_itself nat_cmp_total (hash_of b))

-- what is equal in this order is one name
pub same_name : (a b : List ℕ) → name_cmp a b ≡ Equal → a ≡ b
same_name a b h = grind (arith, order_tells (nat_cmp (hash_of a) (hash_of b)), exact_ends a b)

-- ---- occurrences

occurrence_total : IsTotalOrder occurrence_cmp
occurrence_total =
    then_total (on_total (λ o. o.name) name_total)
    (then_total (on_total (λ o. o.file) nat_cmp_total) (on_total (λ o. o.place.offset) nat_cmp_total))

-- by name, file and place is by name
pub order_names : (os : List Occurrence) → AreInOrder os → AreInHashOrder os
order_names os up k d low inside = first_not _ _ (up k d low inside)

pub not_below : (x y : ℕ) → is_lt (nat_cmp x y) ≡ false → y ≤ x
not_below x y h = grind (arith, nat_tests)

name_between : (a b c : Occurrence) → is_lt (occurrence_cmp b a) ≡ false → is_lt (occurrence_cmp c b) ≡ false
    → a.name ≡ c.name → a.name ≡ b.name
name_between a b c h k e = grind (arith, order_tells, name_total, same_name, first_not)

module _ (os : List Occurrence) (up : AreInOrder os) where
  in_order : (i j : ℕ) → i ≤ j → j < length os → is_lt (occurrence_cmp (at os j) (at os i)) ≡ false
  in_order i j h below = sorted_far (λ x y. is_lt (occurrence_cmp x y)) (ranks_by occurrence_total (λ o. o)) os up i j
      blank h below

  pub places_in_order : (i j : ℕ) → i ≤ j → j < length os → (at os i).name ≡ (at os j).name
      → IsNoLater (at os i) (at os j)
  places_in_order i j h below e =
      grind (arith, common_steps, in_order i j h below, tied_itself, name_total, nat_tests)

  -- what stands between two occurrences of one name has that name
  pub names_between : (i j k : ℕ) → i ≤ j → j ≤ k → k < length os → (at os i).name ≡ (at os k).name
      → (at os i).name ≡ (at os j).name
  names_between i j k h g below e =
      name_between (at os i) (at os j) (at os k) (in_order i j h (omega arith)) (in_order j k g below) e
