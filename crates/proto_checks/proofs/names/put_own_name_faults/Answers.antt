use Rattle.proto_checks.proofs.Common.{gains_last, gains_union}
use Rattle.proto_checks.proofs.names.put_own_name_faults.Goals as goal

pub returns : goal.returns
returns c = gains_last _ _ _
    (gains_union c.in_ok-put_json_names_twice.ensures c.in_ok-put_reserved_names_used.ensures) c.put_each.ensures
