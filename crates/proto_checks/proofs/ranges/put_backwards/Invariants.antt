use Rattle.proto_checks.proofs.Common.{GainsTo, IsBackwards}
use Rattle.proto_checks.proofs.ranges.put_backwards.Given as goal

abbrev pub invariant-loop-range : goal.invariant-loop-range
invariant-loop-range l = GainsTo l.ranges IsBackwards l.range-index l.initial.faults.items l.faults.items
