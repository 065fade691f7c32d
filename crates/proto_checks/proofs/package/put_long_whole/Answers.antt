use Rattle.proto_checks.proofs.Common.{arith, common_steps, gains_where}
use Rattle.proto_checks.proofs.package.put_long_whole.Goals as goal

pub returns-then-dotted_len-get : goal.returns-then-dotted_len-get
returns-then-dotted_len-get c = gains_where _ _ _ _ (grind (arith, common_steps)) c.put_fault.ensures
