-- Lengths of names.
use Rattle.std.specs.Prelude.{◌≡◌, ℕ, ◌-◌, ◌^◌, ◌<◌, ◌⊎◌, List, ◌++◌, length, min, map, flat_map}
use Rattle.proto_base.specs.Limits.{limit_of}
use Rattle.proto_base.specs.declared.kind.Kind.TheVariants as kind
use Rattle.proto_base.specs.declared.limits.Limit.TheVariants as limit
use Rattle.proto_base.specs.declared.limits.Limits.{Limits}
use Rattle.proto_base.specs.declared.place.Place.{Place}
use Rattle.proto_desc.specs.DeclaredNames.{Declared, scoped, declared_field, declared_oneof, declared_by_enum}
use Rattle.proto_desc.specs.declared.enumeration.EnumDesc.{EnumDesc}
use Rattle.proto_desc.specs.declared.field.FieldDesc.{FieldDesc}
use Rattle.proto_desc.specs.declared.oneof.OneofDesc.{OneofDesc}
use Rattle.proto_base.specs.Least.{spot}
use Rattle.proto_base.specs.declared.spot.Spot.{Spot}

-- the length of a text, up to the greatest number of 64 bits
abbrev pub capped : List ℕ → ℕ
capped text = min (length text) (2 ^ 64 - 1)

abbrev pub IsLongName : Limits → List ℕ → List ℕ → Place → Spot → Type 0
IsLongName limits scope name place x =
    ((limit_of limits limit.NameBytes < length name)
    ⊎ (limit_of limits limit.FullNameBytes < length (scoped scope name)))
    × (x ≡ spot place kind.NameTooLong)

-- what a message of this full name declares, but for the messages within it
abbrev pub declared_inside_of : List ℕ → List FieldDesc → List OneofDesc → List EnumDesc → List Declared
declared_inside_of full fields oneofs enums =
    map (declared_field full) fields ++ map (declared_oneof full) oneofs ++ flat_map (declared_by_enum full) enums
