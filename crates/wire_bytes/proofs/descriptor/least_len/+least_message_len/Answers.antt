use Rattle.std.proofs.Common.{arith}
use Rattle.std.proofs.lemmas.Grind.{common_steps}
use Rattle.wire_bytes.proofs.LeastLen.{message_longer}
use Rattle.wire_bytes.proofs.descriptor.least_len.+least_message_len.Goals as goal

pub returns : goal.returns
returns t c = grind (arith, common_steps, message_longer c.args.message.now)
