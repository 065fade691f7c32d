use Rattle.proto_checks.proofs.Common.{arith, common_steps, gains_as}
use Rattle.proto_checks.proofs.field_options.put_wrongly_packed.Goals as goal

pub returns-then-is_true : goal.returns-then-is_true
returns-then-is_true c = gains_as _ _ _ (rw c.name_place.ensures at c.put_fault.ensures)
    (λ x. (λ is. grind (arith, common_steps), λ w. w.3))
