use Rattle.proto_checks.proofs.Common.{arith, common_steps, gains_where}
use Rattle.proto_checks.proofs.file.put_syntax_fault.Goals as goal

pub returns : goal.returns
returns c = gains_where _ _ _ _ (grind (arith, common_steps)) c.put_fault.ensures
