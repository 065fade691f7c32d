use Rattle.proto_names.proofs.Common.{arith, common_steps}
use Rattle.proto_names.proofs.starts.Starts.start_of.Goals as goal

pub loop-position-preserved : goal.loop-position-preserved
loop-position-preserved c = grind (arith, common_steps)
