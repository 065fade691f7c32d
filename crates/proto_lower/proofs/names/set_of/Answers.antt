use Rattle.proto_lower.proofs.Common.{arith, common_steps}
use Rattle.proto_lower.proofs.names.set_of.Goals as goal

pub loop-name-preserved : goal.loop-name-preserved
loop-name-preserved c = grind (arith, common_steps)

pub returns : goal.returns
returns c = grind (arith, common_steps)
