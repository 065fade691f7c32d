use Rattle.proto_checks.proofs.Common.{GainsTo, Each, IsTooLong}
use Rattle.proto_checks.proofs.Elements.{InScope}
use Rattle.proto_checks.proofs.lengths.put_long_names.Given as goal

abbrev pub invariant-loop-element : goal.invariant-loop-element
invariant-loop-element g l = InScope l.fn.scope_len (λ scope. GainsTo l.elements
    (λ a. Each (g.D.DeclaresAll.declares scope a) (IsTooLong l.limits)) l.element-index l.initial.faults.items
    l.faults.items)
