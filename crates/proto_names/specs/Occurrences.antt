-- The occurrences of full names in files. A file is named by its position in the list of files.
use Rattle.std.specs.Prelude.{◌≡◌, ◌≢◌, ◌⊎◌, ℕ, ◌+◌, ◌<◌, ◌≤◌, List, [], ◌∷◌, ◌++◌, map, Option, None, Some, slice_get}
use Rattle.proto_desc.specs.DeclaredNames.{Declared, full_name, declared_by}
use Rattle.proto_desc.specs.declared.file.FileDesc.{FileDesc}
use Rattle.proto_desc.specs.declared.file.PackageDescriptor.{PackageDescriptor}
use Rattle.proto_desc.specs.declared.name_kind.NameKind.{NameKind}
use Rattle.proto_names.specs.Scopes.{prefixes}
use Rattle.proto_base.specs.declared.place.Place.{Place}

-- a full name in a file: a package, which has no kind of element, or an element that the file declares
pub record Occurrence : Type 0 where
  pub name : List ℕ
  pub file : ℕ
  pub place : Place
  pub kind : Option NameKind

abbrev pub declared_occurrence : ℕ → Declared → Occurrence
declared_occurrence file d = record { name = full_name d; file = file; place = d.place; kind = Some d.kind }

abbrev pub package_occurrence : ℕ → Place → List ℕ → Occurrence
package_occurrence file place prefix = record { name = prefix; file = file; place = place; kind = None }

-- a package occurs by every prefix of its name
abbrev pub package_occurrences : ℕ → Option PackageDescriptor → List Occurrence
package_occurrences file None = []
package_occurrences file (Some p) = map (package_occurrence file p.place) (prefixes p.name)

-- ---- all that occurs

abbrev pub occurrences_of : ℕ → FileDesc → List Occurrence
occurrences_of file f = package_occurrences file f.«package» ++ map (declared_occurrence file) (declared_by f)

-- those of files of which the first has this position
abbrev pub occurrences_from : ℕ → List FileDesc → List Occurrence
occurrences_from first [] = []
occurrences_from first (f ∷ fs) = occurrences_of first f ++ occurrences_from (first + 1) fs

abbrev pub occurrences : List FileDesc → List Occurrence
occurrences = occurrences_from 0

-- ---- names that occur twice

-- by file, then by place
abbrev pub IsNoLater : Occurrence → Occurrence → Type 0
IsNoLater a b = (a.file < b.file) ⊎ ((a.file ≡ b.file) × (a.place.offset ≤ b.place.offset))

abbrev pub IsPackage : Occurrence → Type 0
IsPackage o = o.kind ≡ None

-- two occurrences of one name, the first no later, not both packages
pub record Clash (a b : Occurrence) : Type 0 where
  pub same : a.name ≡ b.name
  pub no_later : IsNoLater a b
  pub not_packages : IsPackage a → IsPackage b → ⊥

-- both, at two positions
abbrev pub ContainsBoth : List Occurrence → Occurrence → Occurrence → Type 0
ContainsBoth os a b = (i : ℕ) × (j : ℕ) × (i ≢ j) × (slice_get os i ≡ Some a) × (slice_get os j ≡ Some b)

-- an occurrence with another one of its name that comes no later
abbrev pub IsTwice : List Occurrence → Occurrence → Type 0
IsTwice os b = (a : Occurrence) × ContainsBoth os a b × Clash a b

abbrev pub NoneTwice : List Occurrence → Type 0
NoneTwice os = (b : Occurrence) → IsTwice os b → ⊥
