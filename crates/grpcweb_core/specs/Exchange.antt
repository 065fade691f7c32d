-- What answering a reader's bytes over a writer does.
use Rattle.std.specs.Prelude.{◌≡◌, ℕ, suc, ◌+◌, List, Result, Ok, Err}
use Rattle.counted_io.specs.Runs.{IsRead, IsWritten, IsWrittenInPart}
use Rattle.counted_io.specs.Streams.{Reads, Writes}
use Rattle.counted_io.specs.declared.stream.IoFault.{IoFault}
use Rattle.counted_io.specs.declared.stream.IoFault.TheVariants.{ReadFault, WriteFault, NoMemory}
use Rattle.first_reach.specs.declared.mode.Mode.{Mode}
use Rattle.proto_base.specs.Limits.{limit_of}
use Rattle.proto_base.specs.declared.limits.Limit.TheVariants.{BodyBytes}
use Rattle.proto_compilation.specs.Compilation.{Compilation}
use Rattle.reflect_core.specs.Response.{IsResponse}

-- one byte over the limit of a body, which is enough to tell that it is too long
abbrev pub room_of : Compilation → ℕ
room_of c = limit_of c.limits BodyBytes + 1

-- what an exchange did, by how it ended
abbrev pub IsExchange : {A : Type 0} → Mode → Compilation → Reads → Reads → Writes → Writes → Result A IoFault → Type 0
IsExchange mode c reads reads' writes writes' (Ok a) =
    (body response : List ℕ) × IsRead (room_of c) reads reads' body × IsResponse mode c body response
    × IsWritten writes writes' response
IsExchange mode c reads reads' writes writes' (Err ReadFault) =
    (reads'.failures ≡ suc reads.failures) × (writes' ≡ writes)
IsExchange mode c reads reads' writes writes' (Err (WriteFault written)) =
    (body response : List ℕ) × IsRead (room_of c) reads reads' body × IsResponse mode c body response
    × IsWrittenInPart writes writes' response written
IsExchange mode c reads reads' writes writes' (Err NoMemory) =
    (reads'.failures ≡ reads.failures) × (writes' ≡ writes)
