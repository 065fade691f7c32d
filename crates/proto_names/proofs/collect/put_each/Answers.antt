use Rattle.proto_names.proofs.Common.{arith, common_steps}
use Rattle.proto_names.proofs.collect.put_each.Goals as goal

pub loop-element-preserved : goal.loop-element-preserved
loop-element-preserved g c = grind (arith, common_steps)
