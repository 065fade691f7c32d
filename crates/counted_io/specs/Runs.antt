-- What a reading or a writing of bytes did.
use Rattle.std.specs.Prelude.{◌≡◌, ◌⊎◌, ℕ, suc, ◌+◌, ◌<◌, ◌≤◌, List, [], ◌∷◌, ◌++◌, length, take, Option, Some, Result, Ok, Err, Vec}
use Rattle.std.specs.Io.KnownBytes.{Appends, Consumes, IsAtEnd}
use Rattle.std.specs.declared.alloc.Global.{Global}
use Rattle.counted_io.specs.Streams.{Call, Reads, Writes}
use Rattle.counted_io.specs.declared.stream.IoFault.{IoFault}
use Rattle.counted_io.specs.declared.stream.IoFault.TheVariants.{ReadFault, WriteFault, NoMemory}

-- the last of some calls had room and gave nothing, and where it is known what is left, that is nothing
pub record IsEnded (calls : List Call) (left : Option (List ℕ)) : Type 0 where
  pub earlier : List Call
  pub last : Call
  pub called : calls ≡ earlier ++ last ∷ []
  pub room : 0 < last.room
  pub nothing : last.given ≡ Some 0
  pub known : IsAtEnd left

-- these bytes were read, by calls of which none failed: all that there were, or as many as there is room for
pub record IsRead (room : ℕ) (old new : Reads) (bytes : List ℕ) : Type 0 where
  pub own : List Call
  pub calls : new.calls ≡ old.calls ++ own
  pub given : new.bytes ≡ old.bytes ++ bytes
  pub within : length bytes ≤ room
  pub whole : (length bytes ≡ room) ⊎ IsEnded own new.left
  pub failures : new.failures ≡ old.failures
  pub left : Consumes old.left new.left bytes

-- all of these bytes were written and flushed
pub record IsWritten (old new : Writes) (bytes : List ℕ) : Type 0 where
  pub taken : new.bytes ≡ old.bytes ++ bytes
  pub flushed : new.unflushed ≡ []
  pub failures : new.failures ≡ old.failures
  pub contents : Appends old.contents new.contents bytes

-- the first so many of these bytes were written, and then a call failed
pub record IsWrittenInPart (old new : Writes) (bytes : List ℕ) (written : ℕ) : Type 0 where
  pub within : written ≤ length bytes
  pub taken : new.bytes ≡ old.bytes ++ take written bytes
  pub failures : new.failures ≡ suc old.failures
  pub contents : Appends old.contents new.contents (take written bytes)

-- what a reading of bytes did, by how it ended
abbrev pub IsReadRun : ℕ → Reads → Reads → Result (Vec ℕ Global) IoFault → Type 0
IsReadRun room old new (Ok bytes) = IsRead room old new bytes.items
IsReadRun room old new (Err ReadFault) = new.failures ≡ suc old.failures
IsReadRun room old new (Err (WriteFault written)) = ⊥
IsReadRun room old new (Err NoMemory) = new.failures ≡ old.failures

-- what a writing of bytes did, by how it ended
abbrev pub IsWriteRun : {A : Type 0} → Writes → Writes → List ℕ → Result A IoFault → Type 0
IsWriteRun old new bytes (Ok a) = IsWritten old new bytes
IsWriteRun old new bytes (Err (WriteFault written)) = IsWrittenInPart old new bytes written
IsWriteRun old new bytes (Err ReadFault) = ⊥
IsWriteRun old new bytes (Err NoMemory) = ⊥

-- at most so many calls more
abbrev pub IsFewMore : ℕ → Reads → Reads → Type 0
IsFewMore most old new = length new.calls ≤ length old.calls + most
