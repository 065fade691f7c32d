use Rattle.proto_checks.proofs.Common.{arith, common_steps, gains_last, gains_none}
use Rattle.proto_checks.proofs.numbers.put_reserved_range_faults.Goals as goal

pub returns-then-is_empty : goal.returns-then-is_empty
returns-then-is_empty g c = gains_none (λ x w. grind (arith, common_steps))

pub returns : goal.returns
returns g c =
    let bounds = rw (c.deref.ensures.value, c.in_ok-listed.ensures) at c.in_ok-bounds.ensures in
    let bound = rw (c.deref-2.ensures.value, bounds) at c.in_ok-put_outside.ensures in
    let ranges = rw (c.deref-3.ensures.value, c.in_ok-listed.ensures) at c.in_ok-ranges.ensures in
    gains_last _ _ _ bound (rw (c.deref-4.ensures.value, ranges) at c.put_range_faults.ensures)
