use Rattle.proto_checks.proofs.Common.{gains_as, gains_last, gains_union}
use Rattle.proto_checks.proofs.Elements.{each_three}
use Rattle.proto_checks.proofs.body.put_body_faults.Goals as goal

pub returns : goal.returns
returns c = gains_last _ _ _ (gains_union c.in_ok-put_field_number_faults.ensures
    c.in_ok-put_statement_setting_faults.ensures) (gains_as _ _ _ c.put_each.ensures (each_three _ _ _ _ _ _ _))
