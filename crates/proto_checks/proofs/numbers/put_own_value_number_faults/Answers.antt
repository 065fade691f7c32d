use Rattle.proto_checks.proofs.Common.{gains_last, gains_union}
use Rattle.proto_checks.proofs.numbers.put_own_value_number_faults.Goals as goal

pub returns : goal.returns
returns c = gains_last _ _ _ (gains_union c.in_ok-put_first_not_zero.ensures c.in_ok-put_outside.ensures)
    c.put_values_twice.ensures
