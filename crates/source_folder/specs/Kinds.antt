-- What the system tells of an entry.
use Rattle.std.specs.Prelude.{◌≡◌, ◌≢◌, ◌==◌, ◌&&◌, Bool, Result, Ok, Err, alloc_error}
use Rattle.std.specs.Fs.{IsDir, IsFile, file_type}
use Rattle.std.specs.IoError.{error_kind}
use Rattle.std.specs.declared.alloc.AllocError.{AllocError}
use Rattle.std.specs.declared.fs.Metadata.{Metadata}
use Rattle.std.specs.declared.io.Error.{Error}
use Rattle.std.specs.declared.io.ErrorKind.TheVariants.{FilesystemLoop, NotADirectory, NotFound}
use Rattle.counted_io.specs.Memory.{LacksMemory}
use Rattle.source_folder.specs.Reasons.{IsReasonOf}
use Rattle.source_folder.specs.declared.kind.Identity.{Identity}
use Rattle.source_folder.specs.declared.kind.EntryKind.{EntryKind}
use Rattle.source_folder.specs.declared.kind.EntryKind.TheVariants as kind
use Rattle.source_folder.specs.declared.reason.Reason.{Reason}
use Rattle.source_folder.specs.declared.reason.Reason.TheVariants.{Untold}

-- whether two folders are one
abbrev pub is_same : Identity → Identity → Bool
is_same a b = (a.device == b.device) && (a.inode == b.inode)

-- the kind of what the system describes
pub record IsKind (metadata : Metadata) (k : EntryKind) : Type 0 where
  pub folder : IsDir (file_type metadata) → (identity : Identity) × (k ≡ kind.Folder identity)
  pub file : IsFile (file_type metadata) → k ≡ kind.File
  pub other : (IsDir (file_type metadata) → ⊥) → (IsFile (file_type metadata) → ⊥) → k ≡ kind.Device

-- the kind of what the system can't describe: what is not there, also behind a file, and a link that leads to itself
-- lead nowhere
pub record IsKindBehind (error : Error) (answer : Result EntryKind AllocError) : Type 0 where
  pub memory : LacksMemory error → answer ≡ Err alloc_error
  pub missing : error_kind error ≡ NotFound → answer ≡ Ok kind.Nowhere
  pub blocked : error_kind error ≡ NotADirectory → answer ≡ Ok kind.Nowhere
  pub looping : error_kind error ≡ FilesystemLoop → answer ≡ Ok kind.Nowhere
  pub unknown : (LacksMemory error → ⊥) → error_kind error ≢ NotFound → error_kind error ≢ NotADirectory
      → error_kind error ≢ FilesystemLoop
      → (reason : Reason) × IsReasonOf error Untold reason × (answer ≡ Ok (kind.Unknown reason))
