use Rattle.proto_lower.proofs.Common.{arith, common_steps}
use Rattle.proto_lower.proofs.reserved.enum_ranges.Goals as goal

pub loop-range-preserved : goal.loop-range-preserved
loop-range-preserved c = grind (arith, common_steps)
