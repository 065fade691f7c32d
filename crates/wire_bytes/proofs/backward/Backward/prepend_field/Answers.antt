use Rattle.std.proofs.Common.{arith}
use Rattle.std.proofs.lemmas.Grind.{common_steps}
use Rattle.wire_bytes.proofs.backward.Backward.prepend_field.Goals as goal

pub prepend_head-requires : goal.prepend_head-requires
prepend_head-requires g c = grind (arith, common_steps)

pub returns : goal.returns
returns g c = grind (arith, common_steps)
