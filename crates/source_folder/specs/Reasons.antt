-- What is the matter with an entry.
use Rattle.std.specs.Prelude.{◌≡◌, ◌≢◌, ℕ, List, None, codes}
use Rattle.std.specs.IoError.{error_kind, raw_os_error}
use Rattle.std.specs.declared.io.Error.{Error}
use Rattle.std.specs.declared.io.ErrorKind.TheVariants.{FilesystemLoop, InvalidFilename, NotADirectory, NotFound, PermissionDenied}
use Rattle.source_folder.specs.declared.fault.FolderFault.{FolderFault}
use Rattle.source_folder.specs.declared.fault.FolderFault.TheVariants as fault
use Rattle.source_folder.specs.declared.reason.Reason.{Reason}
use Rattle.source_folder.specs.declared.reason.Reason.TheVariants as reason

-- a name that the library could not read as text: the system's own errors have a number
abbrev pub IsNameless : Error → Type 0
IsNameless error = (error_kind error ≡ InvalidFilename) × (raw_os_error error ≡ None)

-- what an error says of an entry, or another reason where it says nothing
pub record IsReasonOf (error : Error) (otherwise r : Reason) : Type 0 where
  pub missing : error_kind error ≡ NotFound → r ≡ reason.NotThere
  pub blocked : error_kind error ≡ NotADirectory → r ≡ reason.NoFolder
  pub denied : error_kind error ≡ PermissionDenied → r ≡ reason.Denied
  pub looping : error_kind error ≡ FilesystemLoop → r ≡ reason.Nowhere
  pub nameless : IsNameless error → r ≡ reason.NoText
  pub other : error_kind error ≢ NotFound → error_kind error ≢ NotADirectory → error_kind error ≢ PermissionDenied
      → error_kind error ≢ FilesystemLoop → (IsNameless error → ⊥) → r ≡ otherwise

-- the reason in words
abbrev pub words_of : Reason → List ℕ
words_of reason.NotThere = codes "it is not there"
words_of reason.NoFolder = codes "it is no folder"
words_of reason.Denied = codes "no leave to read it"
words_of reason.NoText = codes "a name in it is no text"
words_of reason.TooDeep = codes "more than 64 folders deep"
words_of reason.TooMany = codes "more than 1,048,576 entries"
words_of reason.Circle = codes "a link that leads to a folder in which it lies"
words_of reason.Changed = codes "the folder changed while it was listed"
words_of reason.Device = codes "it is a device or a pipe"
words_of reason.Nowhere = codes "it is a link that leads nowhere"
words_of reason.Untold = codes "the system does not tell what it is"
words_of reason.Unlisted = codes "it could not be listed"
words_of reason.Unread = codes "it could not be read"
words_of reason.Outside = codes "it does not lie below the root"
words_of reason.OtherName = codes "so this source is named, by its path from the root"

-- the fault in words
abbrev pub words_of_fault : FolderFault → List ℕ
words_of_fault fault.Listing = codes "a folder can't be listed"
words_of_fault fault.Reading = codes "a source can't be read"
words_of_fault fault.NoMemory = codes "out of memory"
