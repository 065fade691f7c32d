-- All that occurs twice: what a walk puts of it, and faults of files in order, each once.
use Rattle.proto_names.proofs.Common.{◌≡◌, ◌∙◌, sym, ap, refl, ℕ, ◌+◌, ◌<◌, ◌↔◌, inl, inr, List, [], ◌∷◌, ◌++◌, length, arith, Bool, true, Contains, Ordering, Less, nat_cmp, cases_lt, nat_tests, ordering_then, mod_below, Contains-append_left, Contains-push, Contains-push_cases, IsPermutation, IsPermutation-sym, get_or_from_slice_get, slice_get_within, hash_of, Occurrence, IsNoLater, IsTwice, AreInOrder, Repeats, at, blank, share_of}
use Rattle.std.specs.Prelude.{◌&&◌, nat_eq, AllPairs}
use Rattle.std.specs.Cmp.{IsEquivalence, IsTotalOrder}
use Rattle.std.specs.List.Sorted.{IsStrictlySortedBy}
use Rattle.std.specs.Ordering.{eq_by_cmp}
use Rattle.std.proofs.lemmas.Bool.{and_parts}
use Rattle.std.proofs.lemmas.Cmp.{and_equiv, nat_cmp_total, nat_eq_equiv, on_equiv, on_total, then_total}
use Rattle.std.proofs.lemmas.List.Elements.{All-weaker}
use Rattle.std.proofs.lemmas.List.Kept.{AllPairs-cons}
use Rattle.std.proofs.lemmas.Map.Keys.{sorted_tail}
use Rattle.std.proofs.lemmas.Map.Views.{All-after_first}
use Rattle.proto_base.proofs.KindOrder.{by_number}
use Rattle.proto_base.proofs.SpotOrder.{one_spot_of, spot_cmp, spot_eq, spot_equiv, spot_ties, spot_total}
use Rattle.proto_base.proofs.Spots.{same_place}
use Rattle.proto_links.specs.Bad.{Precedes}
use Rattle.proto_links.specs.declared.bad.FileSpot.{FileSpot}
use Rattle.proto_names.specs.Repeated.{name_twice}
use Rattle.proto_names.proofs.Built.{twice_moved}
use Rattle.proto_names.proofs.Once.{KnownTo, known_split, repeats_twice}
use Rattle.proto_names.proofs.Ordered.{places_in_order}

-- ---- the one share

pub share_alone : (os : List Occurrence) → share_of 1 0 os ≡ os
share_alone [] = refl
share_alone (o ∷ os) = grind (arith, nat_tests, mod_below (hash_of o.name) 1 (omega arith), share_alone os)

-- ---- what a walk has put

-- the faults of what is repeated among the first n
pub record ArePut (os : List Occurrence) (n : ℕ) (spots : List FileSpot) : Type 0 where
  pub are : (x : FileSpot) → Contains spots x ↔ KnownTo name_twice os n x

module _ (os : List Occurrence) (n : ℕ) (spots : List FileSpot) (put : ArePut os n spots) where
  pub put_more : Repeats os n → ArePut os (n + 1) (spots ++ name_twice (at os n) ∷ [])
  put_more repeats = record {
    are = λ x. (
      λ w. elim (Contains-push_cases spots (name_twice (at os n)) x w) [
        | inl old ↦ (let (k, below, repeats, is) = (put.are x).0 old in (k, omega (arith, below), repeats, is))
        | inr is ↦ (n, omega arith, repeats, is)
      ],
      λ known. elim (known_split name_twice os n x known) [
        | inl old ↦ Contains-append_left spots (name_twice (at os n) ∷ []) x ((put.are x).1 old)
        | inr now ↦ rw (sym now.1) (Contains-push spots (name_twice (at os n)))
      ],
    );
  }

  pub put_same : (Repeats os n → ⊥) → ArePut os (n + 1) spots
  put_same none = record {
    are = λ x. (
      λ w. (let (k, below, repeats, is) = (put.are x).0 w in (k, omega (arith, below), repeats, is)),
      λ known. elim (known_split name_twice os n x known) [
        | inl old ↦ (put.are x).1 old
        | inr now ↦ absurd (none now.0)
      ],
    );
  }

one_location : (a b : Occurrence) → IsNoLater a b → IsNoLater b a → name_twice a ≡ name_twice b
one_location a b before behind = grind (arith, same_place a.place b.place)

-- where something occurs twice, one that repeats its name stands
repeats_there : (os : List Occurrence) (b : Occurrence) → AreInOrder os → IsTwice os b
    → (k : ℕ) × (k < length os) × Repeats os k × (name_twice (at os k) ≡ name_twice b)
repeats_there os b up (a, (i, j, apart, first, second), clash) =
    let here : at os i ≡ a = get_or_from_slice_get os i a blank first in
    let there : at os j ≡ b = get_or_from_slice_get os j b blank second in
    let low = slice_get_within os i a first in
    let high = slice_get_within os j b second in
    elim (cases_lt i j) [
      | inl before ↦ (j, high, (i, before, grind arith, grind arith), ap name_twice there)
      | inr behind ↦ (let no_later : IsNoLater b a =
          rw (← here, ← there) (places_in_order os up j i behind low (grind arith)) in (
            i,
            low,
            (j, omega arith, grind arith, grind arith),
            ap name_twice here ∙ one_location a b clash.no_later no_later,
          ))
    ]

pub put_all : (os : List Occurrence) (spots : List FileSpot) → AreInOrder os → ArePut os (length os) spots
    → (x : FileSpot) → Contains spots x ↔ ((b : Occurrence) × IsTwice os b × (x ≡ name_twice b))
put_all os spots up put x = (
  λ w. (let (k, below, repeats, is) = (put.are x).0 w in (at os k, repeats_twice os k up below repeats, sym is)),
  λ (b, twice, is). (let (k, below, repeats, same) = repeats_there os b up twice in
      (put.are x).1 (k, below, repeats, same ∙ sym is)),
)

-- in another order
pub twice_either : (xs ys : List Occurrence) → IsPermutation xs ys → (x : FileSpot)
    → ((b : Occurrence) × IsTwice ys b × (x ≡ name_twice b)) ↔ ((b : Occurrence) × IsTwice xs b × (x ≡ name_twice b))
twice_either xs ys same x = (
  λ (b, twice, is). (b, twice_moved ys xs (IsPermutation-sym xs ys same) b twice, is),
  λ (b, twice, is). (b, twice_moved xs ys same b twice, is),
)

-- ---- faults of files, sorted

-- as the derived order compares them, and as `==` does
abbrev pub file_spot_cmp : FileSpot → FileSpot → Ordering
file_spot_cmp a b = ordering_then (nat_cmp a.file b.file) (spot_cmp a.spot b.spot)

abbrev pub file_spot_eq : FileSpot → FileSpot → Bool
file_spot_eq a b = nat_eq a.file b.file && spot_eq a.spot b.spot

pub file_spot_total : IsTotalOrder file_spot_cmp
file_spot_total = then_total (on_total (λ (x : FileSpot). x.file) nat_cmp_total)
    (on_total (λ (x : FileSpot). x.spot) spot_total)

pub file_spot_equiv : IsEquivalence file_spot_eq
file_spot_equiv = and_equiv (on_equiv (λ (x : FileSpot). x.file) nat_eq_equiv)
    (on_equiv (λ (x : FileSpot). x.spot) spot_equiv)

pub file_spot_ties : (a b : FileSpot) → file_spot_eq a b ≡ eq_by_cmp file_spot_cmp a b
file_spot_ties a b = rw (spot_ties a.spot b.spot) (grind (arith, nat_tests))

pub one_file_spot : (a b : FileSpot) → file_spot_eq a b ≡ true → a ≡ b
one_file_spot a b same =
    let parts = and_parts (nat_eq a.file b.file) (spot_eq a.spot b.spot) same in
    let spots = one_spot_of a.spot b.spot parts.1 in
    grind (arith, nat_tests)

less_precedes : (a b : FileSpot) → file_spot_cmp a b ≡ Less → Precedes a b
less_precedes a b less = let known = rw (by_number a.spot.kind b.spot.kind) at less in grind (arith, nat_tests)

-- each comes before all behind it
pub all_precede : (xs : List FileSpot) → IsStrictlySortedBy file_spot_cmp xs → AllPairs Precedes xs
all_precede [] up = λ i j d before below. absurd (omega (arith, below))
all_precede (x ∷ xs) up = AllPairs-cons Precedes x xs
    (All-weaker (λ y. file_spot_cmp x y ≡ Less) (Precedes x) (less_precedes x) xs
    (All-after_first file_spot_cmp x xs up))
    (all_precede xs (sorted_tail file_spot_cmp x xs up))
