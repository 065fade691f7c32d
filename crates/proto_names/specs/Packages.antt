-- Words of private contracts: the packages that many files have, and these files as rows of bits.
use Rattle.std.specs.Prelude.{◌≡◌, ◌⊎◌, ◌↔◌, ℕ, ◌+◌, ◌<◌, ◌++◌, ◌∷◌, [], All, List, Contains, length, take, drop, slice_index_or}
use Rattle.bit_matrix.specs.Bits.{Bits, has}
use Rattle.bit_matrix.specs.Changes.{Has, IsAsLarge, columns_of}
use Rattle.proto_names.specs.Occurrences.{Occurrence, IsPackage}
use Rattle.proto_names.specs.declared.packages.PackageRun.{PackageRun}

-- one of the occurrences is in this file
abbrev pub IsFileOf : List Occurrence → ℕ → Type 0
IsFileOf os file = (o : Occurrence) × Contains os o × (o.file ≡ file)

-- one more row of files: those of occurrences
pub record HasFilesOf (old : Bits) (row : ℕ) (os : List Occurrence) (new : Bits) : Type 0 where
  pub large : IsAsLarge old new
  pub kept : (r c : ℕ) → r < old.rows → c < columns_of old → (r ≡ row → ⊥) → has new r c ≡ has old r c
  pub files : (c : ℕ) → c < columns_of old → Has new row c ↔ (Has old row c ⊎ IsFileOf os c)

-- the occurrences of a package, and a row in which their files are set
pub record IsPackageOf (os : List Occurrence) (files : Bits) (row : ℕ) : Type 0 where
  pub inside : row < files.rows
  pub packages : All IsPackage os
  pub members : (c : ℕ) → c < columns_of files → Has files row c ↔ IsFileOf os c
  pub columns : All (λ o. o.file < columns_of files) os

abbrev pub run_at : List PackageRun → ℕ → PackageRun
run_at runs k = slice_index_or runs k (record { start = 0; len = 0 })

-- the occurrences of a run
abbrev pub occurrences_in : List Occurrence → PackageRun → List Occurrence
occurrences_in os run = take run.len (drop run.start os)

-- each run is a package, whose files are set in its row
pub record ArePackagesOf (os : List Occurrence) (runs : List PackageRun) (files : Bits) : Type 0 where
  pub rows : files.rows ≡ length runs
  pub each : (k : ℕ) → k < length runs → IsPackageOf (occurrences_in os (run_at runs k)) files k

-- one more run: occurrences of a package, which begin at a position, and a row in which their files are set
pub record HasPackagePut (os : List Occurrence) (start : ℕ) (old_runs : List PackageRun) (old : Bits)
    (runs : List PackageRun) (new : Bits) : Type 0 where
  pub longer : runs ≡ old_runs ++ (record { start = start; len = length os }) ∷ []
  pub rows : new.rows ≡ old.rows + 1
  pub width : new.width ≡ old.width
  pub kept : (r c : ℕ) → r < old.rows → c < columns_of old → has new r c ≡ has old r c
  pub put : IsPackageOf os new old.rows
