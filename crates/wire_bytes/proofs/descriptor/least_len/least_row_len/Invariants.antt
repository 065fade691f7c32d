use Rattle.std.proofs.Common.{◌≤◌, ◌+◌, flat_map, length}
use Rattle.std.specs.Slice.Iter.{iter_rest}
use Rattle.wire_bytes.proofs.descriptor.least_len.least_row_len.Given as goal

abbrev pub invariant-loop-payload : goal.invariant-loop-payload
invariant-loop-payload g l = l.least + length (flat_map g.P.Payload.bytes (iter_rest l.payload-iterator))
    ≤ length (flat_map g.P.Payload.bytes l.payloads)
