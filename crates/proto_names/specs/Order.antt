-- Occurrences in the order in which an index keeps them: by the hashes of their names, then by name, file and place.
use Rattle.std.specs.Prelude.{◌≡◌, ◌⊎◌, ℕ, ◌<◌, ◌≤◌, List, reverse, Option, Some, IsSomeAnd, IsSorted, IsSortedByKey}
use Rattle.std.specs.declared.cmp.Ordering.{Ordering}
use Rattle.std.specs.Cmp.Lexicographic.{slice_cmp}
use Rattle.std.specs.Ordering.{nat_cmp, ordering_then}
use Rattle.proto_names.specs.Hashes.{hash_of}
use Rattle.proto_names.specs.Index.{name_of}
use Rattle.proto_names.specs.Occurrences.{Occurrence}
use Rattle.proto_names.specs.declared.entry.Location.{Location}

-- byte by byte, from the ends of the names on
unfoldable pub end_cmp : List ℕ → List ℕ → Ordering
end_cmp a b = slice_cmp nat_cmp (reverse a) (reverse b)

-- most names differ in their hashes, so that few are compared byte by byte
abbrev pub name_cmp : List ℕ → List ℕ → Ordering
name_cmp a b = ordering_then (nat_cmp (hash_of a) (hash_of b)) (end_cmp a b)

-- by the hashes of their names, then by name
abbrev pub AreInHashOrder : List Occurrence → Type 0
AreInHashOrder os = IsSortedByKey name_of name_cmp os

-- by file, then by place
abbrev pub place_cmp : Occurrence → Occurrence → Ordering
place_cmp a b = ordering_then (nat_cmp a.file b.file) (nat_cmp a.place.offset b.place.offset)

abbrev pub occurrence_cmp : Occurrence → Occurrence → Ordering
occurrence_cmp a b = ordering_then (name_cmp a.name b.name) (place_cmp a b)

abbrev pub AreInOrder : List Occurrence → Type 0
AreInOrder os = IsSorted occurrence_cmp os

-- by file, then by place
abbrev pub NoLater : Location → Location → Type 0
NoLater a b = (a.file < b.file) ⊎ ((a.file ≡ b.file) × (a.place.offset ≤ b.place.offset))

abbrev pub location_of : Occurrence → Location
location_of o = record { file = o.file; place = o.place }

-- the earlier of what is known and one more
pub record IsEarlierOf (known : Option Location) (location first : Location) : Type 0 where
  pub one : (known ≡ Some first) ⊎ (location ≡ first)
  pub left : (x : Location) → IsSomeAnd known (λ a. NoLater a x) → NoLater first x
  pub right : (x : Location) → NoLater location x → NoLater first x
