use Rattle.proto_names.proofs.Common.{arith, common_steps}
use Rattle.proto_names.proofs.collect.put_members.Goals as goal

pub loop-member-preserved : goal.loop-member-preserved
loop-member-preserved g c = grind (arith, common_steps)
