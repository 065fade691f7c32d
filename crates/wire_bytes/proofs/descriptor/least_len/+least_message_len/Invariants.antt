use Rattle.std.proofs.Common.{◌≤◌, ◌+◌, flat_map, length, take}
use Rattle.proto_desc.specs.declared.message.MessageDesc.{out-MessageDesc}
use Rattle.wire_bytes.specs.Descriptor.{field_desc_bytes, message_desc_bytes}
use Rattle.wire_bytes.proofs.descriptor.least_len.+least_message_len.Given as goal

abbrev pub invariant-loop-nested : goal.invariant-loop-nested
invariant-loop-nested l = l.least ≤ length (flat_map field_desc_bytes (out-MessageDesc l.message).fields)
    + length (flat_map message_desc_bytes (take l.nested-index (out-MessageDesc l.message).nested))
