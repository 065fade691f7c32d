use Rattle.proto_names.proofs.Common.{arith, common_steps}
use Rattle.proto_names.proofs.parts.collect_each.Goals as goal

pub returns : goal.returns
returns c = grind (arith, common_steps)
