use Rattle.std.proofs.Common.{length, ◌-◌}
use Rattle.counted_io.proofs.Moving.{IsWriting}
use Rattle.counted_io.proofs.transfer.write_bytes.Given as goal

abbrev pub invariant-loop-written : goal.invariant-loop-written
invariant-loop-written g l = IsWriting (g.O.CountedWrite.writes l.initial.writer)
    (g.O.CountedWrite.writes l.writer) l.bytes l.written

abbrev pub decreases-loop-written : goal.decreases-loop-written
decreases-loop-written g l = length l.bytes - l.written
