-- The index of the names of files.
use Rattle.std.specs.Prelude.{◌≡◌, ℕ, ◌<◌, ◌≤◌, List, length, map, filter, Bool, true, false, Option, Some, Contains, IsPermutation, IsSorted}
use Rattle.std.specs.Cmp.Lexicographic.{slice_cmp}
use Rattle.std.specs.Ordering.{nat_cmp}
use Rattle.proto_desc.specs.declared.file.FileDesc.{FileDesc}
use Rattle.proto_desc.specs.declared.name_kind.NameKind.{NameKind}
use Rattle.proto_desc.specs.declared.name_kind.NameKind.TheVariants as kind
use Rattle.proto_base.specs.Limits.{limit_of}
use Rattle.proto_base.specs.declared.limits.Limit.TheVariants as limit
use Rattle.proto_base.specs.declared.limits.Limits.{Limits}
use Rattle.proto_names.specs.Occurrences.{Occurrence, occurrences, NoneTwice}

-- what occurs in so many files, and the names of the services among it
pub record Index : Type 0 where
  pub files : ℕ
  pub occurrences : List Occurrence
  pub services : List (List ℕ)

abbrev pub name_of : Occurrence → List ℕ
name_of o = o.name

abbrev pub is_service_kind : Option NameKind → Bool
is_service_kind (Some kind.Service) = true
is_service_kind _ = false

abbrev pub services_of : List Occurrence → List (List ℕ)
services_of os = map name_of (filter (λ o. is_service_kind o.kind) os)

-- each occurrence is of one of the files, and the services are in byte order
pub record IsSound (index : Index) : Type 0 where
  pub inside : (o : Occurrence) → Contains index.occurrences o → o.file < index.files
  pub services : IsPermutation (services_of index.occurrences) index.services
  pub order : IsSorted (slice_cmp nat_cmp) index.services

-- ---- what the index of names is

-- names in so many files, where they are no more than the limit and none occurs twice
pub record IndexesNames (count : ℕ) (names : List Occurrence) (limits : Limits) (index : Index) : Type 0 where
  pub files : index.files ≡ count
  pub within : length names ≤ limit_of limits limit.Names
  pub once : NoneTwice names
  pub all : IsPermutation names index.occurrences
  pub sound : IsSound index

-- all that occurs in files
abbrev pub Indexes : List FileDesc → Limits → Index → Type 0
Indexes descs limits index = IndexesNames (length descs) (occurrences descs) limits index
