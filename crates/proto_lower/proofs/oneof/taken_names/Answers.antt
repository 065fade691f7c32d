use Rattle.proto_lower.proofs.Common.{arith, common_steps}
use Rattle.proto_lower.proofs.oneof.taken_names.Goals as goal

pub loop-field-preserved : goal.loop-field-preserved
loop-field-preserved c = grind (arith, common_steps)

pub loop-oneof-init : goal.loop-oneof-init
loop-oneof-init c = grind (arith, common_steps)

pub loop-oneof-preserved : goal.loop-oneof-preserved
loop-oneof-preserved c = grind (arith, common_steps)

pub returns : goal.returns
returns c = grind (arith, common_steps)
