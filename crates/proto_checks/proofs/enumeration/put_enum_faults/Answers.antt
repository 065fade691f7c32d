use Rattle.proto_checks.proofs.Common.{each_flat, gains_as, gains_last, gains_union, enum_value}
use Rattle.proto_checks.proofs.enumeration.put_enum_faults.Goals as goal

pub returns : goal.returns
returns c =
    let numbers = rw c.as_slice-items.ensures at c.in_ok-put_enum_number_faults.ensures in
    let own = rw c.as_slice-items.ensures at c.in_ok-put_statement_setting_faults.ensures in
    gains_last _ _ _ (gains_union (gains_union c.in_ok-put_empty.ensures numbers) own)
    (gains_as _ _ _ (rw c.as_slice-items.ensures at c.put_each.ensures) (each_flat _ enum_value _))
