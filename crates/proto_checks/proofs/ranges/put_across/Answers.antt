use Rattle.proto_checks.proofs.Common.{get_or, arith, both_ways, gains_each, gains_hit, gains_pass, gains_start, item_at}
use Rattle.proto_checks.proofs.Elements.{no_range}
use Rattle.proto_checks.proofs.Intervals.{shared_told}
use Rattle.proto_checks.proofs.ranges.put_across.Goals.{then-range+then-is_reached+in_ok-put_fault, else-range, else-range-via-then-range+else-is_reached, else-range-via-else-range}
use Rattle.proto_checks.proofs.ranges.put_across.Goals as goal

pub loop-range-init : goal.loop-range-init
loop-range-init c = gains_start

pub loop-range-preserved : goal.loop-range-preserved
loop-range-preserved c =
    let here = get_or c.args.late.now c.loop-range.range-index no_range in
    let stands = item_at c.args.late.now c.loop-range.range-index no_range (omega arith) in
    let shared = shared_told c.args.early.now c.in_ok-cover.cover.items c.in_ok-cover.ensures here in
    elim c.if-range.branch [
      | then-range+then-is_reached+in_ok-put_fault w ↦ rw w.faults-is
          (gains_hit _ stands (shared.0 (
            w.if-range.true,
            (rw w.deref.ensures.value at w.is_reached.ensures).0 w.if-is_reached.true,
          )) c.loop-range.invariant
          w.in_ok-put_fault.ensures)
      | else-range w ↦ rw w.faults-is (gains_pass _ stands (λ p. elim w.else-range.branch [
        | else-range-via-then-range+else-is_reached v ↦ both_ways _ v.if-is_reached.false
            ((rw v.deref.ensures.value at v.is_reached.ensures).1 (shared.1 p).1)
        | else-range-via-else-range v ↦ omega (arith, (shared.1 p).0, v.if-range.false)
      ]) c.loop-range.invariant)
    ]

pub returns : goal.returns
returns c = gains_each (omega arith) c.loop-range.invariant
