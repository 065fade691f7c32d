-- Where no name is declared twice, none is wherever the names stand.
use Rattle.std.proofs.Common.{◌≡◌, ◌≢◌, ◌∙◌, sym, ap, refl, ℕ, zero, suc, ◌⊎◌, inl, inr, List, [], ◌∷◌, map, IsPermutation, Some, slice_get, arith}
use Rattle.std.proofs.lemmas.Bool.{cases_order}
use Rattle.std.proofs.lemmas.Option.{none-some, same_Some}
use Rattle.proto_names.proofs.Built.{twice_moved}
use Rattle.proto_names.specs.Occurrences.{IsNoLater, IsPackage, NoneTwice, Occurrence}
use Rattle.set_round_trip.specs.ButPlaces.{at_start}

map_get : {X Y : Type 0} (f : X → Y) (xs : List X) (i : ℕ) (y : Y) → slice_get (map f xs) i ≡ Some y
    → (x : X) × (slice_get xs i ≡ Some x) × (f x ≡ y)
map_get f [] i y at = absurd (none-some y at)
map_get f (x ∷ xs) zero y at = (x, refl, same_Some (f x) y at)
map_get f (x ∷ xs) (suc i) y at = map_get f xs i y at

get_map : {X Y : Type 0} (f : X → Y) (xs : List X) (i : ℕ) (x : X) → slice_get xs i ≡ Some x
    → slice_get (map f xs) i ≡ Some (f x)
get_map f [] i x at = absurd (none-some x at)
get_map f (y ∷ xs) zero x at = ap (λ z. Some (f z)) (same_Some y x at)
get_map f (y ∷ xs) (suc i) x at = get_map f xs i x at

-- one of two comes no later
either_first : (a b : Occurrence) → IsNoLater a b ⊎ IsNoLater b a
either_first a b = grind (arith, cases_order)

-- two of one name, not both packages
twice_of : (os : List Occurrence) (i j : ℕ) (a b : Occurrence) → i ≢ j → slice_get os i ≡ Some a
    → slice_get os j ≡ Some b
    → a.name ≡ b.name → (IsPackage a → IsPackage b → ⊥) → NoneTwice os → ⊥
twice_of os i j a b apart one other same elements none = elim (either_first a b) [
  | inl before ↦ none b (
    a,
    (i, j, apart, one, other),
    record { same = same; no_later = before; not_packages = elements },
  )
  | inr after ↦ none a (
    b,
    (j, i, λ e. apart (sym e), other, one),
    record { same = sym same; no_later = after; not_packages = λ p q. elements q p },
  )
]

start_once : (os : List Occurrence) → NoneTwice os → NoneTwice (map at_start os)
start_once os none b (a, (i, j, apart, one, other), clash) =
    let (x, first, is) = map_get at_start os i a one in
    let (y, second, too) = map_get at_start os j b other in
    twice_of os i j x y apart first second
    (ap (λ (o : Occurrence). o.name) is ∙ clash.same ∙ sym (ap (λ (o : Occurrence). o.name) too))
    (λ p q. clash.not_packages (sym (ap (λ (o : Occurrence). o.kind) is) ∙ p)
    (sym (ap (λ (o : Occurrence). o.kind) too) ∙ q)) none

start_earlier : (a b : Occurrence) → IsNoLater a b → IsNoLater (at_start a) (at_start b)
start_earlier a b (inl before) = inl before
start_earlier a b (inr (same, low)) = inr (same, omega arith)

once_anywhere : (os : List Occurrence) → NoneTwice (map at_start os) → NoneTwice os
once_anywhere os none b (a, (i, j, apart, one, other), clash) = none (at_start b) (
  at_start a,
  (i, j, apart, get_map at_start os i a one, get_map at_start os j b other),
  record {
    same = clash.same;
    no_later = start_earlier a b clash.no_later;
    not_packages = clash.not_packages;
  },
)

pub once_moved : (os ps : List Occurrence) → IsPermutation (map at_start ps) (map at_start os) → NoneTwice os
    → NoneTwice ps
once_moved os ps moved none = once_anywhere ps (λ b twice. start_once os none b
    (twice_moved (map at_start ps) (map at_start os) moved b twice))
