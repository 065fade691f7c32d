use Rattle.proto_checks.proofs.Common.{gains_last, gains_union}
use Rattle.proto_checks.proofs.file.put_head_faults.Goals as goal

pub returns : goal.returns
returns c =
    let packages = rw c.as_slice-statements.ensures at c.in_ok-put_packages_twice.ensures in
    let imports = rw c.as_slice.ensures at c.in_ok-put_texts_twice.ensures in
    gains_last _ _ _ (gains_union (gains_union c.in_ok-put_syntax_fault.ensures packages) imports)
    (rw c.as_slice-statements.ensures at c.put_statement_setting_faults.ensures)
