use Rattle.proto_lower.proofs.Common.{arith, common_steps}
use Rattle.proto_lower.proofs.service.put_methods.Goals as goal

pub returns : goal.returns
returns c = grind (arith, common_steps)
