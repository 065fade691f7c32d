use Rattle.std.proofs.Common.{◌≡◌, ◌+◌, length}
use Rattle.wire_format.specs.Varint.{varint_bytes}
use Rattle.wire_format.proofs.varint.varint_len.Given as goal

abbrev pub invariant-loop-rest : goal.invariant-loop-rest
invariant-loop-rest l = l.len + length (varint_bytes l.rest) ≡ length (varint_bytes l.value) + 1

abbrev pub decreases-loop-rest : goal.decreases-loop-rest
decreases-loop-rest l = l.rest
