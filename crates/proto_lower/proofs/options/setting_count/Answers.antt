use Rattle.proto_lower.proofs.Common.{arith, common_steps}
use Rattle.proto_lower.proofs.options.setting_count.Goals as goal

pub loop-item-preserved : goal.loop-item-preserved
loop-item-preserved g c = grind (arith, common_steps)
