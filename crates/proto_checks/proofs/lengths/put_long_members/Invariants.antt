use Rattle.proto_checks.proofs.Common.{GainsTo, IsTooLong}
use Rattle.proto_checks.proofs.Elements.{InScope}
use Rattle.proto_checks.proofs.lengths.put_long_members.Given as goal

abbrev pub invariant-loop-member : goal.invariant-loop-member
invariant-loop-member g l = InScope l.fn.scope_len
    (λ scope. GainsTo l.members (λ a. IsTooLong l.limits (g.D.Declares.declared scope a)) l.member-index
    l.initial.faults.items l.faults.items)
