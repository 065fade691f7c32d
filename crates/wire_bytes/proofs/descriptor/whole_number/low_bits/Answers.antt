use Rattle.std.proofs.Common.{rules}
use Rattle.wire_bytes.proofs.descriptor.whole_number.low_bits.Goals as goal

pub returns-then-number : goal.returns-then-number
returns-then-number c = search rules
