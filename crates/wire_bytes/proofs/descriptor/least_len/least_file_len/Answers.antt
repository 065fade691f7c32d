use Rattle.std.proofs.Common.{arith}
use Rattle.std.proofs.lemmas.Grind.{common_steps}
use Rattle.wire_bytes.proofs.LeastLen.{file_longer}
use Rattle.wire_bytes.proofs.descriptor.least_len.least_file_len.Goals as goal

pub returns : goal.returns
returns c = grind (arith, common_steps, file_longer c.args.file.now)
