use Rattle.std.proofs.Common.{[], take, Ok, flat_map}
use Rattle.proto_compilation.specs.Compilation.{bytes_at}
use Rattle.wire_format.specs.Field.{bytes_field}
use Rattle.schema_commands.specs.Gathered.{IsGathered}
use Rattle.schema_commands.proofs.set_writing.SetWriter.write.Given as goal

abbrev pub invariant-loop-file : goal.invariant-loop-file
invariant-loop-file g l =
    IsGathered {B = Unit {0}} (g.O.CountedWrite.writes l.fn.writer)
    (g.O.CountedWrite.writes l.writer) [] l.self.chunk.bytes.items
    (flat_map (λ a. bytes_field 1 (bytes_at l.compiled.files a)) (take l.file-index l.file-items)) (Ok tt)
