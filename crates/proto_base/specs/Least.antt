-- The least of a set by an order, and that of a set of spots: of places with what is wrong there.
use Rattle.std.specs.Prelude.{◌≡◌, ◌<◌, ◌≤◌, ◌⊎◌, Option, MatchOption}
use Rattle.proto_base.specs.Kind.{number_of}
use Rattle.proto_base.specs.declared.kind.Kind.{Kind}
use Rattle.proto_base.specs.declared.place.Place.{Place}
use Rattle.proto_base.specs.declared.spot.Spot.{Spot}

-- one of the set, which is no later than any of it
pub record IsLeastBy {X : Type 0} (NoLater : X → X → Type 0) (S : X → Type 0) (x : X) : Type 0 where
  pub among : S x
  pub least : (y : X) → S y → NoLater x y

abbrev pub spot : Place → Kind → Spot
spot p k = record { place = p; kind = k }

-- a comes no later than b: by place, then by the kind's number
abbrev pub AtMost : Spot → Spot → Type 0
AtMost a b =
    (a.place.offset < b.place.offset) ⊎ ((a.place.offset ≡ b.place.offset) × (number_of a.kind ≤ number_of b.kind))

-- a comes before b
abbrev pub Precedes : Spot → Spot → Type 0
Precedes a b =
    (a.place.offset < b.place.offset) ⊎ ((a.place.offset ≡ b.place.offset) × (number_of a.kind < number_of b.kind))

-- the least of a set, None only where it is empty
pub record IsLeast (S : Spot → Type 0) (first : Option Spot) : Type 0 where
  pub is : MatchOption first ((x : Spot) → S x → ⊥) (IsLeastBy AtMost S)
