use Rattle.proto_checks.proofs.Common.{GainsTo}
use Rattle.proto_checks.specs.Covers.{IsAcross}
use Rattle.proto_checks.proofs.ranges.put_across.Given as goal

abbrev pub invariant-loop-range : goal.invariant-loop-range
invariant-loop-range l =
    GainsTo l.late (IsAcross l.fn.early) l.range-index l.initial.faults.items l.faults.items
