use Rattle.proto_checks.proofs.Common.{arith, common_steps, gains_none}
use Rattle.proto_checks.proofs.ranges.put_reserved_numbers_used.Goals as goal

pub returns-then-is_empty : goal.returns-then-is_empty
returns-then-is_empty c = gains_none (λ x w. grind (arith, common_steps))
