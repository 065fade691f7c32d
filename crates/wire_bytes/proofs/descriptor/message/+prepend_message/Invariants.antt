use Rattle.std.proofs.Common.{◌≡◌, ◌++◌}
use Rattle.std.specs.Prelude.{flat_map}
use Rattle.std.specs.Slice.Iter.{iter_rest}
use Rattle.proto_desc.specs.declared.message.MessageDesc.{out-MessageDesc}
use Rattle.wire_bytes.specs.Descriptor.{message_desc_bytes}
use Rattle.wire_format.specs.Field.{bytes_field}
use Rattle.wire_bytes.proofs.descriptor.message.+prepend_message.Given as goal

abbrev pub invariant-loop-nested : goal.invariant-loop-nested
invariant-loop-nested l = flat_map (λ m. bytes_field 3 (message_desc_bytes m)) (iter_rest l.nested-iterator.iter)
    ++ l.out
    ≡ flat_map (λ m. bytes_field 3 (message_desc_bytes m)) (out-MessageDesc l.message).nested ++ l.initial.out
