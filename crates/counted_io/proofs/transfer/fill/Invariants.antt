use Rattle.std.proofs.Common.{length, ◌-◌}
use Rattle.counted_io.proofs.Moving.{IsReading}
use Rattle.counted_io.proofs.transfer.fill.Given as goal

abbrev pub invariant-loop-filled : goal.invariant-loop-filled
invariant-loop-filled g l = IsReading (g.I.CountedRead.reads l.initial.reader)
    (g.I.CountedRead.reads l.reader) l.room l.filled

abbrev pub decreases-loop-filled : goal.decreases-loop-filled
decreases-loop-filled g l = length l.initial.room - l.filled
