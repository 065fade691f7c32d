-- The lesser of two spots.
use Rattle.std.specs.Prelude.{◌≡◌, ◌⊎◌, Option, Some}
use Rattle.proto_base.specs.declared.spot.Spot.{Spot}
use Rattle.proto_base.specs.Least.{IsLeast}

-- the least of two, where there are any
pub record IsLesser (a b first : Option Spot) : Type 0 where
  pub least : IsLeast (λ x. (a ≡ Some x) ⊎ (b ≡ Some x)) first
