use Rattle.proto_checks.proofs.Common.{arith, common_steps}
use Rattle.proto_checks.proofs.settings.settings_of.Goals as goal

pub loop-item-preserved : goal.loop-item-preserved
loop-item-preserved g c = grind (arith, common_steps)
