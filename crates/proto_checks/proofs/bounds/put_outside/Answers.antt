use Rattle.proto_checks.proofs.Common.{arith, gains_each, gains_hit, gains_pass, gains_start, item_at}
use Rattle.proto_checks.proofs.Elements.{no_number}
use Rattle.proto_checks.proofs.bounds.put_outside.Goals.{then-marked-least+in_ok-put_fault, else-marked-least+else-marked-greatest}
use Rattle.proto_checks.proofs.bounds.put_outside.Goals as goal

pub loop-marked-init : goal.loop-marked-init
loop-marked-init c = gains_start

pub loop-marked-preserved : goal.loop-marked-preserved
loop-marked-preserved c =
    let stands = item_at c.args.numbers.now c.loop-marked.marked-index no_number (omega arith) in
    elim c.if-marked-least.branch [
      | then-marked-least+in_ok-put_fault w ↦ rw w.faults-is
          (gains_hit _ stands (grind arith) c.loop-marked.invariant w.in_ok-put_fault.ensures)
      | else-marked-least+else-marked-greatest w ↦ rw w.faults-is
          (gains_pass _ stands (grind arith) c.loop-marked.invariant)
    ]

pub returns : goal.returns
returns c = gains_each (omega arith) c.loop-marked.invariant
