use Rattle.proto_checks.proofs.Common.{arith, ap, common_steps, gains_miss, gains_where}
use Rattle.proto_tree.specs.declared.oneof.Oneof.{Oneof}
use Rattle.proto_checks.proofs.Elements.{members_told}
use Rattle.proto_checks.proofs.oneof.put_empty.Goals as goal

pub returns-then-has_member : goal.returns-then-has_member
returns-then-has_member c = grind (arith, common_steps, gains_miss, members_told)

pub returns-else-has_member : goal.returns-else-has_member
returns-else-has_member c =
    let place = ap (λ (o : Oneof). o.name.span.start) c.oneof.view_is in
    gains_where _ _ _ _ (grind (arith, common_steps, members_told)) (rw place at c.put_fault.ensures)
