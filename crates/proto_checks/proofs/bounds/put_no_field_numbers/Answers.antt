use Rattle.proto_checks.proofs.Common.{arith, gains_each, gains_hit, gains_pass, gains_start, item_at}
use Rattle.proto_checks.proofs.Elements.{no_number}
use Rattle.proto_checks.proofs.bounds.put_no_field_numbers.Goals.{then-not-is_field_number+in_ok-put_fault, else-not-is_field_number}
use Rattle.proto_checks.proofs.bounds.put_no_field_numbers.Goals as goal

pub loop-marked-init : goal.loop-marked-init
loop-marked-init c = gains_start

pub loop-marked-preserved : goal.loop-marked-preserved
loop-marked-preserved c =
    let stands = item_at c.args.numbers.now c.loop-marked.marked-index no_number (omega arith) in
    elim c.if-not-is_field_number.branch [
      | then-not-is_field_number+in_ok-put_fault w ↦ rw w.faults-is
          (gains_hit _ stands (grind arith) c.loop-marked.invariant w.in_ok-put_fault.ensures)
      | else-not-is_field_number w ↦ rw w.faults-is (gains_pass _ stands (grind arith) c.loop-marked.invariant)
    ]

pub returns : goal.returns
returns c = gains_each (omega arith) c.loop-marked.invariant
