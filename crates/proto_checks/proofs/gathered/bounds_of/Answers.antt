use Rattle.proto_checks.proofs.Common.{arith, common_steps}
use Rattle.proto_checks.proofs.gathered.bounds_of.Goals as goal

pub loop-range-preserved : goal.loop-range-preserved
loop-range-preserved g c = grind (arith, common_steps)
