use Rattle.proto_checks.proofs.Common.{GainsTo, IsOutside}
use Rattle.proto_checks.proofs.bounds.put_outside.Given as goal

abbrev pub invariant-loop-marked : goal.invariant-loop-marked
invariant-loop-marked l = GainsTo l.numbers (IsOutside l.fn.least l.fn.greatest l.fn.kind) l.marked-index
    l.initial.faults.items l.faults.items
