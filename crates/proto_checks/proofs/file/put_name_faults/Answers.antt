use Rattle.proto_checks.proofs.Common.{each_flat, gains_last, gains_same, names_of}
use Rattle.proto_checks.proofs.file.put_name_faults.Goals as goal

pub returns : goal.returns
returns c = gains_last _ _ _ (gains_same (rw c.as_slice.ensures at c.in_ok-put_each.ensures) (each_flat _ names_of _))
    (rw c.as_slice-2.ensures at c.put_each-2.ensures)
