use Rattle.proto_checks.proofs.Common.{GainsTo, Each, bodies_of, BodyBreaks}
use Rattle.proto_checks.proofs.body.+put_message_faults.Given as goal

abbrev pub invariant-loop-item : goal.invariant-loop-item
invariant-loop-item l =
    GainsTo l.items (λ i. Each (bodies_of i) BodyBreaks) l.item-index l.initial.faults.items l.faults.items
