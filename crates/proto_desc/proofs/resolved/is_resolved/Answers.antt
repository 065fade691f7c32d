use Rattle.std.proofs.Common.{arith}
use Rattle.std.proofs.lemmas.Grind.{common_steps}
use Rattle.proto_desc.proofs.resolved.is_resolved.Goals as goal

pub returns-then-not-message_resolved : goal.returns-then-not-message_resolved
returns-then-not-message_resolved c = grind (arith, common_steps)

pub loop-message-preserved : goal.loop-message-preserved
loop-message-preserved c = grind (arith, common_steps)

pub returns : goal.returns
returns c = grind (arith, common_steps)
