use Rattle.proto_checks.proofs.Common.{arith, common_steps, gains_where}
use Rattle.proto_checks.proofs.package.put_long_part.Goals as goal

pub returns-then-part-get : goal.returns-then-part-get
returns-then-part-get c = gains_where _ _ _ _ (grind (arith, common_steps)) c.put_fault.ensures
