use Rattle.std.proofs.Common.{arith}
use Rattle.std.proofs.lemmas.Grind.{common_steps}
use Rattle.wire_bytes.proofs.descriptor.file.prepend_public.Goals as goal

pub loop-position-init : goal.loop-position-init
loop-position-init c = grind (arith, common_steps)

pub loop-position-preserved-in-Continue-1 : goal.loop-position-preserved-in-Continue-1
loop-position-preserved-in-Continue-1 c = grind (arith, common_steps)

pub loop-position-preserved : goal.loop-position-preserved
loop-position-preserved c = grind (arith, common_steps)
