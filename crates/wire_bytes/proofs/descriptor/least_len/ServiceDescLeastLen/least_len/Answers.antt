use Rattle.std.proofs.Common.{arith}
use Rattle.wire_bytes.proofs.LeastLen.{service_longer}
use Rattle.wire_bytes.proofs.descriptor.least_len.ServiceDescLeastLen.least_len.Goals as goal

pub returns : goal.returns
returns c = let whole = service_longer c.args.self.now in omega (arith, whole, c.least_row_len.ensures)
