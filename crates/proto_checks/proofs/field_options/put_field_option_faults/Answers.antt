use Rattle.proto_checks.proofs.Common.{each_union, gains_last, gains_same, separated}
use Rattle.proto_checks.proofs.field_options.put_field_option_faults.Goals as goal

pub returns : goal.returns
returns c =
    let on_field = gains_same (rw c.get.ensures at c.in_ok-put_all_wrong_on_field.ensures)
    (each_union _ _ (separated c.in-Some.options.settings)) in
    rw c.in-Some.is (gains_last _ _ _ on_field (rw c.in-Some.is at c.put_bracketed_setting_faults.ensures))
