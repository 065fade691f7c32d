use Rattle.std.proofs.Common.{arith}
use Rattle.wire_format.proofs.Varints.{varint_bytes-small}
use Rattle.wire_bytes.proofs.backward.Backward.prepend_varint.Goals as goal

pub returns-then-value-lt128 : goal.returns-then-value-lt128
returns-then-value-lt128 c = let small = varint_bytes-small c.args.value (omega arith) in
    rw small c.prepend_byte.ensures
