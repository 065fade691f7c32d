use Rattle.proto_checks.proofs.Common.{GainsTo, IsPartTooLong, part_name}
use Rattle.proto_checks.proofs.package.put_long_parts.Given as goal

abbrev pub invariant-loop-part : goal.invariant-loop-part
invariant-loop-part l = GainsTo l.part-items (λ part. IsPartTooLong l.limits l.place (part_name part)) l.part-index
    l.initial.faults.items l.faults.items
