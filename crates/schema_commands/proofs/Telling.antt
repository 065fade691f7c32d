-- From what was read, described and written to what a run did.
use Rattle.std.proofs.Common.{ℕ, List, [], ◌∷◌, Err, refl}
use Rattle.counted_io.specs.Runs.{IsWriteRun}
use Rattle.counted_io.specs.Streams.{Reads, Writes}
use Rattle.counted_io.specs.declared.stream.IoFault.{IoFault}
use Rattle.counted_io.specs.declared.stream.IoFault.TheVariants as io
use Rattle.proto_base.specs.declared.limits.Limits.{Limits}
use Rattle.proto_compile.specs.declared.source.Source.{Source}
use Rattle.schema_commands.specs.Runs.{IsDescribeRun, IsInput, IsLineOf}
use Rattle.schema_compile.specs.Told.{IsToldOf}
use Rattle.schema_failure.specs.Faults.{of_exchange}
use Rattle.schema_failure.specs.declared.failure.Failure.{Failure}
use Rattle.schema_failure.specs.declared.failure.Failure.TheVariants as failure

pub refused : (name : List ℕ) (reads reads' : Reads) (writes : Writes) (limits : Limits) (source : Source)
    (f : Failure) → IsInput name reads reads' limits source → IsToldOf limits (source ∷ []) f
    → IsDescribeRun {A = Unit {0}} name reads reads' writes writes (Err f)
refused name reads reads' writes limits source (failure.Source file line column kind) input told =
    (limits, source, input, told, refl)
refused name reads reads' writes limits source failure.NoMemory input told = (input.read.failures, refl)
refused name reads reads' writes limits source f input told = absurd told

pub unwritten : (name : List ℕ) (reads reads' : Reads) (writes writes' : Writes) (limits : Limits) (source : Source)
    (line : List ℕ) (fault : IoFault) → IsInput name reads reads' limits source → IsLineOf limits source line
    → IsWriteRun {A = Unit {0}} writes writes' line (Err fault)
    → IsDescribeRun {A = Unit {0}} name reads reads' writes writes' (Err (of_exchange fault))
unwritten name reads reads' writes writes' limits source line (io.WriteFault written) input is run =
    (limits, source, input, line, is, written, run)
unwritten name reads reads' writes writes' limits source line fault input is run = absurd run
