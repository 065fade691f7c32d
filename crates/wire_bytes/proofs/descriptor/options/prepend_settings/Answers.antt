use Rattle.std.proofs.Common.{arith}
use Rattle.std.proofs.lemmas.Grind.{common_steps}
use Rattle.wire_bytes.proofs.descriptor.options.prepend_settings.Goals as goal

pub loop-option-preserved : goal.loop-option-preserved
loop-option-preserved c = grind (arith, common_steps)

pub returns : goal.returns
returns c = grind (arith, common_steps)
