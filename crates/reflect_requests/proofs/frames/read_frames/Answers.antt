use Rattle.std.proofs.Common.{arith}
use Rattle.std.proofs.lemmas.Grind.{common_steps}
use Rattle.reflect_requests.proofs.frames.read_frames.Goals as goal

pub loop-message-preserved : goal.loop-message-preserved
loop-message-preserved c = grind (arith, common_steps)

pub returns : goal.returns
returns c = grind (arith, common_steps)
