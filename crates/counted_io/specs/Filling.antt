-- Words of a private contract: a room that is filled.
use Rattle.std.specs.Prelude.{◌≡◌, ℕ, suc, ◌≤◌, List, length, take, Result, Ok, Err}
use Rattle.counted_io.specs.Runs.{IsRead}
use Rattle.counted_io.specs.Streams.{Reads}
use Rattle.counted_io.specs.declared.stream.IoFault.{IoFault}
use Rattle.counted_io.specs.declared.stream.IoFault.TheVariants.{ReadFault}

-- how a room was filled: its first so many bytes were read, or a read failed
abbrev pub IsFilled : Reads → Reads → List ℕ → Result ℕ IoFault → Type 0
IsFilled old new room (Ok n) = (n ≤ length room) × IsRead (length room) old new (take n room)
IsFilled old new room (Err e) = (e ≡ ReadFault) × (new.failures ≡ suc old.failures)
