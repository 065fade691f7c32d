use Rattle.std.proofs.Common.{◌≡◌, ◌++◌}
use Rattle.std.specs.Prelude.{flat_map}
use Rattle.std.specs.Slice.Iter.{iter_rest}
use Rattle.wire_format.specs.Field.{bytes_field}
use Rattle.wire_bytes.proofs.backward.Backward.prepend_fields.Given as goal

abbrev pub invariant-loop-payload : goal.invariant-loop-payload
invariant-loop-payload g l = flat_map (λ p. bytes_field l.number (g.P.Payload.bytes p))
    (iter_rest l.payload-iterator.iter) ++ l.self
    ≡ flat_map (λ p. bytes_field l.number (g.P.Payload.bytes p)) l.payloads ++ l.initial.self
