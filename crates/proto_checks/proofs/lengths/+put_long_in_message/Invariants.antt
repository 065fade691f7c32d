use Rattle.proto_checks.proofs.Common.{GainsTo, Each, IsTooLong, declared_by_message}
use Rattle.proto_desc.proofs.Declared.{scope_in}
use Rattle.proto_checks.proofs.Elements.{InScope}
use Rattle.proto_checks.proofs.lengths.+put_long_in_message.Given as goal

abbrev pub invariant-loop-nested : goal.invariant-loop-nested
invariant-loop-nested l = InScope l.fn.scope_len (λ scope. GainsTo l.nested-items
    (λ n. Each (declared_by_message n (scope_in l.message scope)) (IsTooLong l.limits)) l.nested-index
    l.initial.faults.items l.faults.items)
