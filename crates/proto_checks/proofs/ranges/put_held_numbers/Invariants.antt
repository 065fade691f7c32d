use Rattle.proto_checks.proofs.Common.{GainsTo, IsReserved}
use Rattle.proto_checks.proofs.ranges.put_held_numbers.Given as goal

abbrev pub invariant-loop-marked : goal.invariant-loop-marked
invariant-loop-marked l =
    GainsTo l.numbers (IsReserved l.fn.ranges) l.marked-index l.initial.faults.items l.faults.items
