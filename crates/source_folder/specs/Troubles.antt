-- Why a folder could not be read, and which entry was the trouble.
use Rattle.std.specs.Prelude.{◌≡◌, ℕ, List, ◌++◌, ◌⊎◌, Option, None, Some, IsSomeAnd, codes, string_bytes}
use Rattle.std.specs.declared.io.Error.{Error}
use Rattle.counted_io.specs.Memory.{LacksMemory}
use Rattle.source_folder.specs.Reasons.{IsReasonOf, words_of, words_of_fault}
use Rattle.source_folder.specs.declared.fault.FolderFault.{FolderFault}
use Rattle.source_folder.specs.declared.fault.FolderFault.TheVariants as faults
use Rattle.source_folder.specs.declared.reason.Reason.{Reason}
use Rattle.source_folder.specs.declared.trouble.FolderTrouble.{FolderTrouble}
use Rattle.source_folder.specs.declared.trouble.TroubledEntry.{TroubledEntry}

-- memory was short
abbrev pub no_memory : FolderTrouble
no_memory = record { fault = faults.NoMemory; entry = None }

-- a fault at this path for this reason, or memory was short to tell it
abbrev pub IsTroubleAt : FolderFault → List ℕ → Reason → FolderTrouble → Type 0
IsTroubleAt fault path reason trouble = (trouble ≡ no_memory)
    ⊎ ((trouble.fault ≡ fault) × IsSomeAnd trouble.entry (λ e. (string_bytes e.path ≡ path) × (e.reason ≡ reason)))

-- what an error is at this path: want of memory, or a fault for the reason that the error tells
pub record IsTroubleOf (error : Error) (fault : FolderFault) (path : List ℕ) (otherwise : Reason)
    (trouble : FolderTrouble) : Type 0 where
  pub lacking : LacksMemory error → trouble ≡ no_memory
  pub device : (LacksMemory error → ⊥)
      → (reason : Reason) × IsReasonOf error otherwise reason × IsTroubleAt fault path reason trouble

-- the path of the entry and what is the matter with it; where no entry is told, the fault
abbrev pub line_by : FolderFault → Option TroubledEntry → List ℕ
line_by fault (Some entry) = string_bytes entry.path ++ (codes ": " ++ words_of entry.reason)
line_by fault None = words_of_fault fault

abbrev pub line_of : FolderTrouble → List ℕ
line_of trouble = line_by trouble.fault trouble.entry
