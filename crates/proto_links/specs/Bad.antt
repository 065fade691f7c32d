-- The first of the bad imports, and all of them.
use Rattle.std.specs.Prelude.{◌≡◌, ◌⊎◌, ◌↔◌, ℕ, ◌<◌, List, AllPairs, Contains}
use Rattle.proto_desc.specs.declared.file.FileDesc.{FileDesc}
use Rattle.proto_base.specs.Least.{AtMost, IsLeastBy, spot}
use Rattle.proto_base.specs.declared.kind.Kind.{Kind}
use Rattle.proto_base.specs.declared.place.Place.{Place}
use Rattle.proto_base.specs.declared.spot.Spot.{Spot}
use Rattle.proto_base.specs.Least as least
use Rattle.proto_links.specs.Imports.{IsBad}
use Rattle.proto_links.specs.declared.bad.FileSpot.{FileSpot}

-- by file, then by place, then by the kind's number
abbrev pub IsNoLater : ℕ × Spot → ℕ × Spot → Type 0
IsNoLater (a, x) (b, y) = (a < b) ⊎ ((a ≡ b) × AtMost x y)

-- the first of the bad imports
abbrev pub IsFirstBad : List FileDesc → ℕ → Place → Kind → Type 0
IsFirstBad files a place kind =
    IsLeastBy IsNoLater (λ (bad : ℕ × Spot). IsBad files bad.0 bad.1.place bad.1.kind) (a, spot place kind)

-- a comes before b: by file, then by place, then by the kind's number
abbrev pub Precedes : FileSpot → FileSpot → Type 0
Precedes a b = (a.file < b.file) ⊎ ((a.file ≡ b.file) × least.Precedes a.spot b.spot)

-- exactly the bad imports, in this order, each once
pub record AreAllBad (files : List FileDesc) (bad : List FileSpot) : Type 0 where
  pub all : (x : FileSpot) → Contains bad x ↔ IsBad files x.file x.spot.place x.spot.kind
  pub order : AllPairs Precedes bad
