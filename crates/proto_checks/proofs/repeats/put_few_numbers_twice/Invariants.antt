use Rattle.proto_checks.proofs.Common.{◌≡◌, ClashesTo, spot, MarkedNumber}
use Rattle.proto_checks.proofs.repeats.put_few_numbers_twice.Given as goal

abbrev pub invariant-loop-index : goal.invariant-loop-index
invariant-loop-index l =
    ClashesTo l.numbers (λ (a b : MarkedNumber). a.number ≡ b.number) (λ (b : MarkedNumber). spot b.place l.kind)
    l.index l.initial.faults.items l.faults.items
