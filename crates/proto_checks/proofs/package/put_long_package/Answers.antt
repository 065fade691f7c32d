use Rattle.proto_checks.proofs.Common.{ap, gains_last}
use Rattle.proto_tree.specs.declared.name.FullName.{FullName}
use Rattle.proto_checks.proofs.package.put_long_package.Goals as goal

pub returns : goal.returns
returns c =
    let place = ap (λ (n : FullName). n.first.span.start) c.name.view_is in
    gains_last _ _ _ (rw place at c.in_ok-put_long_parts.ensures) (rw place at c.put_long_whole.ensures)
