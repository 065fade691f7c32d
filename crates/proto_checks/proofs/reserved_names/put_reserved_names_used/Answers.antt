use Rattle.proto_checks.proofs.Common.{arith, common_steps, gains_none}
use Rattle.proto_checks.proofs.reserved_names.put_reserved_names_used.Goals as goal

pub returns-then-is_empty : goal.returns-then-is_empty
returns-then-is_empty g c = gains_none (λ x w. grind (arith, common_steps))
