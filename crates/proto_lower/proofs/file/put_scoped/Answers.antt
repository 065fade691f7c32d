use Rattle.proto_lower.proofs.Common.{arith, common_steps}
use Rattle.proto_lower.proofs.file.put_scoped.Goals as goal

pub loop-statement-preserved : goal.loop-statement-preserved
loop-statement-preserved c = grind (arith, common_steps)

pub returns : goal.returns
returns c = grind (arith, common_steps)
