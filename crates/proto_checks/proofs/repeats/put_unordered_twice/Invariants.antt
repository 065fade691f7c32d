use Rattle.proto_checks.proofs.Common.{nat_cmp, Passed, spot, MarkedNumber}
use Rattle.proto_checks.proofs.repeats.put_unordered_twice.Given as goal

abbrev pub invariant-loop-marked : goal.invariant-loop-marked
invariant-loop-marked l =
    Passed nat_cmp (λ k. k) (λ (a : MarkedNumber). a.number) (λ (a : MarkedNumber). spot a.place l.fn.kind) l.numbers
    l.seen l.marked-index l.initial.faults.items l.faults.items
