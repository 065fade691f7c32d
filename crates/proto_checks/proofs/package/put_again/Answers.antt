use Rattle.proto_checks.proofs.Common.{both_ways, gains_miss, gains_where}
use Rattle.proto_checks.proofs.package.put_again.Goals as goal

pub returns-then-is_again : goal.returns-then-is_again
returns-then-is_again c = gains_where _ _ _ _ c.if-is_again.true c.put_fault.ensures

pub returns-else-is_again : goal.returns-else-is_again
returns-else-is_again c = gains_miss (both_ways _ c.if-is_again.false)
