use Rattle.proto_checks.proofs.body.put_member_faults.Goals as goal

pub returns : goal.returns
returns c = rw c.is_wide-is_wide_integer.ensures at c.put_field_option_faults.ensures
