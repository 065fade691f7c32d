use Rattle.std.proofs.Common.{arith}
use Rattle.wire_format.proofs.Varints.{varint_bytes-small, varint_bytes-step, varint_short}
use Rattle.wire_format.proofs.varint.varint_len.Goals as goal

pub overflow_add-len : goal.overflow_add-len
overflow_add-len c = omega (arith, varint_short)

pub loop-rest-preserved : goal.loop-rest-preserved
loop-rest-preserved c = grind (arith, varint_bytes-step)

pub returns-clause-len : goal.returns-clause-len
returns-clause-len c = grind (arith, varint_bytes-small)

pub returns-clause-most : goal.returns-clause-most
returns-clause-most c = omega (arith, returns-clause-len c, varint_short)
