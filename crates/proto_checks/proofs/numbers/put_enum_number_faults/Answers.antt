use Rattle.proto_checks.proofs.Common.{gains_last, gains_union}
use Rattle.proto_checks.proofs.numbers.put_enum_number_faults.Goals as goal

pub returns : goal.returns
returns c =
    let own = rw (c.deref.ensures.value, c.in_ok-numbers.ensures) at c.in_ok-put_own_value_number_faults.ensures in
    let range = rw (c.deref-2.ensures.value, c.in_ok-numbers.ensures) at c.in_ok-put_reserved_range_faults.ensures in
    gains_last _ _ _ (gains_union own range) c.put_reserved_twice.ensures
