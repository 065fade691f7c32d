-- Words of private contracts: what a walk over files finds, and the parts in which they are dealt out.
use Rattle.std.specs.Prelude.{◌≡◌, ℕ, ◌<◌, ◌≤◌, List, flat_map, length, take, slice_get, Option, None, Some}
use Rattle.proto_desc.specs.declared.file.FileDesc.{FileDesc}
use Rattle.proto_names.specs.Occurrences.{Occurrence, occurrences, occurrences_from}
use Rattle.proto_names.specs.Shares.{all_of}
use Rattle.proto_names.specs.declared.part.Part.{Part}

-- the occurrences in files of which the first has this position, or none where they are more than the limit
abbrev pub IsCollected : ℕ → ℕ → List FileDesc → Option (List Occurrence) → Type 0
IsCollected limit first files None = limit < length (occurrences_from first files)
IsCollected limit first files (Some os) = (os ≡ occurrences_from first files) × (length os ≤ limit)

-- those of parts, which are all, or none where they are more than the limit
abbrev pub AreCollected : ℕ → List FileDesc → Option (List (List Occurrence)) → Type 0
AreCollected limit files None = limit < length (occurrences files)
AreCollected limit files (Some parts) = (all_of parts ≡ occurrences files) × (length (all_of parts) ≤ limit)

-- the files of parts, in their order
abbrev pub files_in : List Part → List FileDesc
files_in parts = flat_map (λ p. p.files.now) parts

-- each part tells how many files stand before it
abbrev pub ArePlaced : List Part → Type 0
ArePlaced parts = (k : ℕ) (p : Part) → slice_get parts k ≡ Some p → p.first ≡ length (files_in (take k parts))

-- parts of files, which are all of them
pub record ArePartsOf (files : List FileDesc) (parts : List Part) : Type 0 where
  pub all : files_in parts ≡ files
  pub placed : ArePlaced parts
