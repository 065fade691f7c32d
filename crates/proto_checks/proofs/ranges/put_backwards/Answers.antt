use Rattle.proto_checks.proofs.Common.{arith, gains_each, gains_hit, gains_pass, gains_start, item_at}
use Rattle.proto_checks.proofs.Elements.{no_range}
use Rattle.proto_checks.proofs.ranges.put_backwards.Goals.{then-range+in_ok-put_fault, else-range}
use Rattle.proto_checks.proofs.ranges.put_backwards.Goals as goal

pub loop-range-init : goal.loop-range-init
loop-range-init c = gains_start

pub loop-range-preserved : goal.loop-range-preserved
loop-range-preserved c =
    let stands = item_at c.args.ranges.now c.loop-range.range-index no_range (omega arith) in
    elim c.if-range.branch [
      | then-range+in_ok-put_fault w ↦ rw w.faults-is
          (gains_hit _ stands (grind arith) c.loop-range.invariant w.in_ok-put_fault.ensures)
      | else-range w ↦ rw w.faults-is (gains_pass _ stands (grind arith) c.loop-range.invariant)
    ]

pub returns : goal.returns
returns c = gains_each (omega arith) c.loop-range.invariant
