use Rattle.proto_checks.proofs.Common.{gains_last, gains_same, gains_union}
use Rattle.proto_checks.specs.Checks.{FileBreaks}
use Rattle.proto_checks.proofs.Elements.{each_three}
use Rattle.proto_checks.proofs.file.put_file_faults.Goals as goal

pub returns : goal.returns
unfolding FileBreaks
returns c =
    let elements = gains_same (rw c.as_slice-statements.ensures at c.in_ok-put_each.ensures)
    (each_three _ _ _ _ _ _ _) in
    let head = gains_union c.in_ok-put_head_faults.ensures elements in
    gains_last _ _ _ (gains_union head c.in_ok-put_name_faults.ensures)
    (rw c.as_slice-statements.ensures at c.put_length_faults.ensures)
