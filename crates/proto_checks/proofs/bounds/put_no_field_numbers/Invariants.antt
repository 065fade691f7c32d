use Rattle.proto_checks.proofs.Common.{GainsTo}
use Rattle.proto_checks.specs.Numbers.{IsNoFieldNumber}
use Rattle.proto_checks.proofs.bounds.put_no_field_numbers.Given as goal

abbrev pub invariant-loop-marked : goal.invariant-loop-marked
invariant-loop-marked l =
    GainsTo l.numbers IsNoFieldNumber l.marked-index l.initial.faults.items l.faults.items
