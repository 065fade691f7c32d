-- Sets of spots: those that the elements of a list make, and those that are put into a list.
use Rattle.std.specs.Prelude.{◌≡◌, ℕ, ◌<◌, ◌⊎◌, ◌↔◌, List, Contains, length, slice_index_or}
use Rattle.proto_base.specs.declared.spot.Spot.{Spot}

infixl 25 ◌∪◌
-- the spots of two sets
abbrev pub ◌∪◌ : (Spot → Type 0) → (Spot → Type 0) → Spot → Type 0
(S ∪ T) x = S x ⊎ T x

-- the one spot, where P holds
abbrev pub Where : Type 0 → Spot → Spot → Type 0
Where P s x = P × (x ≡ s)

-- a stands at i
abbrev pub StandsAt : {X : Type 0} → List X → ℕ → X → Type 0
StandsAt xs i a = (i < length xs) × (slice_index_or xs i a ≡ a)

-- what each element makes by itself
abbrev pub Each : {X : Type 0} → List X → (X → Spot → Type 0) → Spot → Type 0
Each {X} xs S x = (i : ℕ) × (a : X) × StandsAt xs i a × S a x

-- what two elements make together, at the later one
abbrev pub Later : {X : Type 0} → List X → (X → X → Type 0) → (X → Spot) → Spot → Type 0
Later {X} xs R at x = (i j : ℕ) × (a b : X) × (i < j) × StandsAt xs i a × StandsAt xs j b × R a b × (x ≡ at b)

-- the new list has the spots of the old one and those of S, and no other
pub record Gains (S : Spot → Type 0) (old new : List Spot) : Type 0 where
  pub are : (x : Spot) → Contains new x ↔ (Contains old x ⊎ S x)
