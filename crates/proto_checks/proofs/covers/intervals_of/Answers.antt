use Rattle.proto_checks.proofs.Common.{arith, rules, IsNonDecreasingBy-from_sort_by_key, item_at, Interval}
use Rattle.proto_checks.proofs.Elements.{no_range}
use Rattle.proto_checks.proofs.Intervals.{intervals_push, intervals_skip, intervals_all}
use Rattle.proto_checks.proofs.covers.intervals_of.Goals as goal
use Rattle.proto_checks.proofs.covers.intervals_of.Goals.{then-range+in_ok-push, else-range}

pub loop-range-preserved : goal.loop-range-preserved
loop-range-preserved c =
    let stands = item_at c.args.ranges.now c.loop-range.range-index no_range (omega arith) in
    elim c.if-range.branch [
      | then-range+in_ok-push w ↦ rw (w.intervals-is, w.in_ok-push.ensures.items)
          (intervals_push _ _ _ _ stands w.if-range.true c.loop-range.invariant)
      | else-range w ↦ rw w.intervals-is (intervals_skip _ _ _ _ stands w.if-range.false c.loop-range.invariant)
    ]

pub returns-clause-members : goal.returns-clause-members
returns-clause-members c = intervals_all _ _ _ _ (omega arith) c.loop-range.invariant
    c.in_ok-sort_by_key.ensures.permutation

pub returns-clause-rises : goal.returns-clause-rises
returns-clause-rises c = IsNonDecreasingBy-from_sort_by_key (λ (a : Interval). a.start) _
    c.in_ok-sort_by_key.ensures.sorted (λ a r q k. search rules)
