-- What the elements of a list make, by recursion on the list.
use Rattle.std.proofs.Common.{◌≡◌, ℕ, zero, suc, ◌+◌, ◌<◌, List, [], ◌∷◌, ◌++◌, length, take, get_or, map, ap, refl, arith, inl, inr, ◌⊎◌}
use Rattle.std.proofs.lemmas.Grind.{common_steps}
use Rattle.std.proofs.lemmas.List.{take_more, append-nil}
use Rattle.std.proofs.lemmas.List.Concat.{flat_map-append}
use Rattle.std.specs.Prelude.{Option, None, flat_map, ◌↔◌}
use Rattle.proto_base.specs.declared.spot.Spot.{Spot}
use Rattle.proto_base.specs.Least.{IsLeast}
use Rattle.proto_base.specs.Lesser.{IsLesser}
use Rattle.proto_base.specs.Sets.{◌∪◌, StandsAt, Each, Later}
use Rattle.proto_base.proofs.Sets.{least_or, least_same}

abbrev pub Among : {X : Type 0} → List X → (X → Spot → Type 0) → Spot → Type 0
Among [] S x = ⊥
Among (a ∷ rest) S x = S a x ⊎ Among rest S x

module _ {X : Type 0} (S : X → Spot → Type 0) where
  among_at : (x : Spot) (xs : List X) (i : ℕ) (b : X) → i < length xs → get_or xs i b ≡ b → S b x → Among xs S x
  among_at x [] i b within at s = absurd (omega arith)
  among_at x (a ∷ rest) zero b within at s = grind arith
  among_at x (a ∷ rest) (suc i) b within at s = inr (among_at x rest i b (omega arith) at s)

  among_of : (xs : List X) (x : Spot) → Each xs S x → Among xs S x
  among_of xs x w = grind (arith, among_at)

  each_behind : (a : X) (rest : List X) (x : Spot) → Each rest S x → Each (a ∷ rest) S x
  each_behind a rest x (i, b, stands, s) = (suc i, b, (omega (arith, stands.0), stands.1), s)

  each_of : (xs : List X) (x : Spot) → Among xs S x → Each xs S x
  each_of [] x w = absurd w
  each_of (a ∷ rest) x w = grind (arith, each_behind, each_of rest x)

  -- the elements of two lists
  among_split : (xs ys : List X) (x : Spot) → Among (xs ++ ys) S x → Among xs S x ⊎ Among ys S x
  among_split [] ys x w = inr w
  among_split (a ∷ rest) ys x w = grind (arith, among_split rest ys x)

  among_left : (xs ys : List X) (x : Spot) → Among xs S x → Among (xs ++ ys) S x
  among_left [] ys x w = absurd w
  among_left (a ∷ rest) ys x w = grind (arith, among_left rest ys x)

  among_right : (xs ys : List X) (x : Spot) → Among ys S x → Among (xs ++ ys) S x
  among_right [] ys x w = w
  among_right (a ∷ rest) ys x w = inr (among_right rest ys x w)

  pub each_nil : (x : Spot) → Each [] S x → ⊥
  each_nil x w = among_of [] x w

  pub each_single : (a : X) (x : Spot) → S a x ↔ Each (a ∷ []) S x
  each_single a x = (λ s. each_of (a ∷ []) x (inl s), λ w. grind (arith, among_of (a ∷ []) x w))

  pub each_append : (xs ys : List X) (x : Spot) → (Each xs S ∪ Each ys S) x ↔ Each (xs ++ ys) S x
  each_append xs ys x = (
    λ w. elim w [
      | inl v ↦ each_of (xs ++ ys) x (among_left xs ys x (among_of xs x v))
      | inr v ↦ each_of (xs ++ ys) x (among_right xs ys x (among_of ys x v))
    ],
    λ v. grind (arith, among_split xs ys x (among_of (xs ++ ys) x v), each_of xs x, each_of ys x),
  )

  pub each_cons : (a : X) (rest : List X) (x : Spot) → (S a ∪ Each rest S) x ↔ Each (a ∷ rest) S x
  each_cons a rest x = (
    λ w. elim w [
      | inl s ↦ each_of (a ∷ rest) x (inl s)
      | inr v ↦ each_behind a rest x v
    ],
    λ v. elim (among_of (a ∷ rest) x v) [ inl s ↦ inl s | inr w ↦ inr (each_of rest x w) ],
  )

  pub least_nil : IsLeast (Each [] S) None
  least_nil = grind (arith, each_nil)

  pub least_single : (a : X) (r : Option Spot) → IsLeast (S a) r → IsLeast (Each (a ∷ []) S) r
  least_single a r h = least_same _ _ r (λ x. (each_single a x).1) (λ x. (each_single a x).0) h

  pub least_append : (xs ys : List X) (p q r : Option Spot) → IsLeast (Each xs S) p → IsLeast (Each ys S) q
      → IsLesser p q r → IsLeast (Each (xs ++ ys) S) r
  least_append xs ys p q r h k w = least_or _ _ _ p q r (λ x. (each_append xs ys x).1)
      (λ x v. (each_append xs ys x).0 (inl v)) (λ x v. (each_append xs ys x).0 (inr v)) h k w

-- a loop over statements, each of which has elements
pub taken : {X Y : Type 0} (f : X → List Y) (xs : List X) (i : ℕ) (x : X) → i < length xs → x ≡ get_or xs i x
    → flat_map f (take (i + 1) xs) ≡ flat_map f (take i xs) ++ f x
taken f xs i x within at = grind (arith, common_steps, append-nil, flat_map-append, take_more)

-- of two rules of each element
pub each_union : {X : Type 0} (S T : X → Spot → Type 0) (xs : List X) (x : Spot)
    → Each xs (λ a. S a ∪ T a) x ↔ (Each xs S ∪ Each xs T) x
each_union S T xs x = (λ v. grind arith, λ v. grind arith)

-- a rule of each element, said in another way
pub each_as : {X : Type 0} (S T : X → Spot → Type 0) (xs : List X) → ((a : X) (x : Spot) → S a x ↔ T a x) → (x : Spot)
    → Each xs S x ↔ Each xs T x
each_as S T xs same x =
    (λ v. (v.0, v.1, v.2, (same v.1 x).0 v.3), λ v. (v.0, v.1, v.2, (same v.1 x).1 v.3))

-- elements that a function makes of others
stands_on : {X Y : Type 0} (f : X → Y) (xs : List X) (i : ℕ) (b : Y) → i < length (map f xs) → get_or (map f xs) i b ≡ b
    → (a : X) × StandsAt xs i a × (f a ≡ b)
stands_on f [] i b within at = absurd (omega arith)
stands_on f (a ∷ rest) zero b within at = (a, (omega arith, refl), at)
stands_on f (a ∷ rest) (suc i) b within at = grind (arith, stands_on f rest i b)

stands_map : {X Y : Type 0} (f : X → Y) (xs : List X) (i : ℕ) (a : X) → i < length xs → get_or xs i a ≡ a
    → StandsAt (map f xs) i (f a)
stands_map f [] i b within at = absurd (omega arith)
stands_map f (a ∷ rest) zero b within at = (omega arith, ap f at)
stands_map f (a ∷ rest) (suc i) b within at = grind (arith, stands_map f rest i b)

pub each_map : {X Y : Type 0} (S : Y → Spot → Type 0) (f : X → Y) (xs : List X) (x : Spot)
    → Each xs (λ a. S (f a)) x ↔ Each (map f xs) S x
each_map S f xs x = (
  λ v. (v.0, f v.1, stands_map f xs v.0 v.1 v.2.0 v.2.1, v.3),
  λ v. (let (a, at, is) = stands_on f xs v.0 v.1 v.2.0 v.2.1 in (v.0, a, at, rw is v.3)),
)

pub later_map : {X Y : Type 0} (R : Y → Y → Type 0) (at : Y → Spot) (f : X → Y) (xs : List X) (x : Spot)
    → Later (map f xs) R at x ↔ Later xs (λ a b. R (f a) (f b)) (λ b. at (f b)) x
later_map R at f xs x = (
  λ v. grind (arith, stands_on f xs v.0 v.2, stands_on f xs v.1 v.3),
  λ v. grind (arith, stands_map f xs v.0 v.2, stands_map f xs v.1 v.3),
)

-- of less than two elements none is later
pub later_short : {X : Type 0} (xs : List X) (R : X → X → Type 0) (at : X → Spot) → length xs < 2 → (x : Spot)
    → Later xs R at x → ⊥
later_short xs R at short x w = grind arith

-- elements of elements
flat_of : {X Y : Type 0} (S : Y → Spot → Type 0) (f : X → List Y) (xs : List X) (x : Spot)
    → Among xs (λ a. Each (f a) S) x → Among (flat_map f xs) S x
flat_of S f [] x w = absurd w
flat_of S f (a ∷ rest) x w = grind (arith, among_left, among_right, among_of, flat_of S f rest x)

of_flat : {X Y : Type 0} (S : Y → Spot → Type 0) (f : X → List Y) (xs : List X) (x : Spot) → Among (flat_map f xs) S x
    → Among xs (λ a. Each (f a) S) x
of_flat S f [] x w = absurd w
of_flat S f (a ∷ rest) x w =
    grind (arith, among_split S (f a) (flat_map f rest) x w, each_of S (f a) x, of_flat S f rest x)

pub each_flat : {X Y : Type 0} (S : Y → Spot → Type 0) (f : X → List Y) (xs : List X) (x : Spot)
    → Each xs (λ a. Each (f a) S) x ↔ Each (flat_map f xs) S x
each_flat S f xs x = (
  λ w. each_of S (flat_map f xs) x (flat_of S f xs x (among_of (λ a. Each (f a) S) xs x w)),
  λ w. each_of (λ a. Each (f a) S) xs x (of_flat S f xs x (among_of S (flat_map f xs) x w)),
)
