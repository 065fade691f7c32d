use Rattle.std.proofs.Common.{arith}
use Rattle.wire_format.specs.Varint.{varint_bytes}
use Rattle.wire_format.proofs.Varints.{groups_shortest, varint_spelled, varint_short}
use Rattle.wire_format.proofs.varint.varint_is_shortest.Goals as goal

pub returns-clause-spelled : goal.returns-clause-spelled
returns-clause-spelled c = varint_spelled

pub returns-clause-short : goal.returns-clause-short
returns-clause-short c n fits = varint_short n

pub returns-clause-shortest : goal.returns-clause-shortest
unfolding varint_bytes
returns-clause-shortest c n bytes fits = groups_shortest 9 n bytes (omega (arith, fits))
