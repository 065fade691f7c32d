-- What is so of an index, and names that occur twice: the first of them, and all.
use Rattle.std.specs.Prelude.{◌≡◌, ◌↔◌, ℕ, ◌≤◌, List, length, Some, AllPairs, Contains, slice_get}
use Rattle.proto_desc.specs.declared.file.FileDesc.{FileDesc}
use Rattle.proto_base.specs.Least.{IsLeastBy, spot}
use Rattle.proto_base.specs.Limits.{limit_of}
use Rattle.proto_base.specs.declared.kind.Kind.TheVariants as kind
use Rattle.proto_base.specs.declared.limits.Limit.TheVariants as limit
use Rattle.proto_base.specs.declared.limits.Limits.{Limits}
use Rattle.proto_base.specs.declared.place.Place.{Place}
use Rattle.proto_links.specs.Bad.{Precedes}
use Rattle.proto_links.specs.declared.bad.FileSpot.{FileSpot}
use Rattle.proto_names.specs.Occurrences.{Occurrence, IsPackage, occurrences, IsNoLater, IsTwice}
use Rattle.proto_names.specs.Index.{Index, IndexesNames}

-- the first of the occurrences that occur twice stands there
abbrev pub IsFirstTwice : List Occurrence → ℕ → Place → Type 0
IsFirstTwice os file place =
    (b : Occurrence) × IsLeastBy IsNoLater (IsTwice os) b × (b.file ≡ file) × (b.place ≡ place)

-- the fault of an occurrence that occurs twice, in its file and at its place
abbrev pub name_twice : Occurrence → FileSpot
name_twice b = record { file = b.file; spot = spot b.place kind.NameTwice }

-- exactly the occurrences that occur twice, as faults, by file and place, each place once
pub record AreAllTwice (os : List Occurrence) (twice : List FileSpot) : Type 0 where
  pub all : (x : FileSpot) → Contains twice x ↔ ((b : Occurrence) × IsTwice os b × (x ≡ name_twice b))
  pub order : AllPairs Precedes twice

-- the first occurrence that repeats a name, of no more than the limit
pub record IsRepeatedAmong (names : List Occurrence) (limits : Limits) (file : ℕ) (place : Place) : Type 0 where
  pub within : length names ≤ limit_of limits limit.Names
  pub twice : IsFirstTwice names file place

abbrev pub IsRepeated : List FileDesc → Limits → ℕ → Place → Type 0
IsRepeated descs limits file place = IsRepeatedAmong (occurrences descs) limits file place

-- the index of the names of some files
abbrev pub IsOfFiles : Index → Type 0
IsOfFiles index = (count : ℕ) × (names : List Occurrence) × (limits : Limits) × IndexesNames count names limits index

-- the full name of an element has one occurrence, which stands once
pub record AreDeclaredOnce (index : Index) : Type 0 where
  pub one : (o p : Occurrence) → Contains index.occurrences o → Contains index.occurrences p
      → o.name ≡ p.name → (IsPackage o → ⊥) → o ≡ p
  pub once : (i j : ℕ) (o : Occurrence) → slice_get index.occurrences i ≡ Some o
      → slice_get index.occurrences j ≡ Some o → (IsPackage o → ⊥) → i ≡ j
