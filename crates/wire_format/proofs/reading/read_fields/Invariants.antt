use Rattle.std.proofs.Common.{length, map}
use Rattle.wire_format.specs.ProgramFields.{field_of}
use Rattle.wire_format.proofs.ReadingRows.{Kept}
use Rattle.wire_format.proofs.reading.read_fields.Given as goal

abbrev pub invariant-loop-rest : goal.invariant-loop-rest
invariant-loop-rest l = Kept l.bytes l.rest (map field_of l.fields.items)

abbrev pub decreases-loop-rest : goal.decreases-loop-rest
decreases-loop-rest l = length l.rest
