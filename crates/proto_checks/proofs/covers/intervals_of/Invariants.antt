use Rattle.proto_checks.proofs.Intervals.{IntervalsTo}
use Rattle.proto_checks.proofs.covers.intervals_of.Given as goal

abbrev pub invariant-loop-range : goal.invariant-loop-range
invariant-loop-range l = IntervalsTo l.ranges l.range-index l.intervals.items
