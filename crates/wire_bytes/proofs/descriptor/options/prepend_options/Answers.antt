use Rattle.std.proofs.Common.{arith}
use Rattle.std.proofs.lemmas.Grind.{common_steps}
use Rattle.wire_bytes.proofs.descriptor.options.prepend_options.Goals as goal

pub returns-in_ok-prepend_head : goal.returns-in_ok-prepend_head
returns-in_ok-prepend_head c = grind (arith, common_steps)

pub returns-else-len-end : goal.returns-else-len-end
returns-else-len-end c = grind (arith, common_steps)
