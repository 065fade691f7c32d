use Rattle.proto_lower.proofs.Common.{arith, common_steps}
use Rattle.proto_lower.proofs.file.make_room.Goals as goal

pub returns : goal.returns
returns c = grind (arith, common_steps)
