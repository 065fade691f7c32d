use Rattle.proto_checks.proofs.Common.{gains_last}
use Rattle.proto_checks.proofs.numbers.put_own_field_number_faults.Goals as goal

pub returns : goal.returns
returns c = gains_last _ _ _ c.in_ok-put_no_field_numbers.ensures c.put_numbers_twice.ensures
