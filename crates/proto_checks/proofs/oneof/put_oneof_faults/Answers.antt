use Rattle.proto_checks.proofs.Common.{gains_last}
use Rattle.proto_checks.proofs.oneof.put_oneof_faults.Goals as goal

pub returns : goal.returns
returns c = gains_last _ _ _ c.in_ok-put_empty.ensures
    (rw c.as_slice.ensures at c.put_statement_setting_faults.ensures)
