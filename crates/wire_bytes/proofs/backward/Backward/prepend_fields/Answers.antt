use Rattle.std.proofs.Common.{arith}
use Rattle.std.proofs.lemmas.Grind.{common_steps}
use Rattle.wire_bytes.proofs.backward.Backward.prepend_fields.Goals as goal

pub loop-payload-preserved : goal.loop-payload-preserved
loop-payload-preserved g c = grind (arith, common_steps)

pub returns : goal.returns
returns g c = grind (arith, common_steps)
