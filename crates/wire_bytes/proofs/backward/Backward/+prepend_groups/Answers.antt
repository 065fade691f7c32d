use Rattle.std.proofs.Common.{arith}
use Rattle.std.proofs.lemmas.Grind.{common_steps}
use Rattle.wire_format.proofs.Varints.{varint_bytes-small, varint_bytes-step}
use Rattle.wire_bytes.proofs.backward.Backward.+prepend_groups.Goals as goal

pub returns-then-value-lt128 : goal.returns-then-value-lt128
returns-then-value-lt128 t c = let small = varint_bytes-small c.args.value (omega arith) in
    rw small c.prepend_byte.ensures

pub returns : goal.returns
returns t c = let step = varint_bytes-step c.args.value (omega arith) (omega arith) in grind (arith, common_steps, step)
