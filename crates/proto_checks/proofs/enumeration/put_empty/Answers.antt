use Rattle.proto_checks.proofs.Common.{arith, ap, common_steps, gains_miss, gains_where}
use Rattle.proto_tree.specs.declared.enumeration.Enum.{Enum}
use Rattle.proto_checks.proofs.Elements.{values_told}
use Rattle.proto_checks.proofs.enumeration.put_empty.Goals as goal

pub returns-then-has_value : goal.returns-then-has_value
returns-then-has_value c = grind (arith, common_steps, gains_miss, values_told)

pub returns-else-has_value : goal.returns-else-has_value
returns-else-has_value c =
    let place = ap (λ (e : Enum). e.name.span.start) c.declared.view_is in
    gains_where _ _ _ _ (grind (arith, common_steps, values_told)) (rw place at c.put_fault.ensures)
