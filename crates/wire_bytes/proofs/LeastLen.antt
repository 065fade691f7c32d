-- What is written is no shorter than those parts of it that name types.
use Rattle.std.proofs.Common.{◌≤◌, ◌+◌, arith, length, ℕ, List, [], ◌∷◌}
use Rattle.std.specs.Prelude.{flat_map}
use Rattle.std.proofs.lemmas.List.{length-append}
use Rattle.proto_desc.specs.declared.file.FileDesc.{FileDesc}
use Rattle.proto_desc.specs.declared.message.MessageDesc.{MessageDesc}
use Rattle.proto_desc.specs.declared.message.MessageDesc.TheViews.{out-MessageDesc}
use Rattle.proto_desc.specs.declared.service.ServiceDesc.{ServiceDesc}
use Rattle.wire_format.specs.Field.{bytes_field}
use Rattle.wire_bytes.specs.Descriptor.{field_desc_bytes, file_desc_bytes, message_desc_bytes, method_desc_bytes, service_desc_bytes}
use Rattle.wire_bytes.proofs.Messages.{message_desc_bytes_out}

field_longer : (number : ℕ) (bytes : List ℕ) → length bytes ≤ length (bytes_field number bytes)
field_longer number bytes = grind (arith, length-append)

fields_longer : {X : Type 0} (number : ℕ) (f : X → List ℕ) (xs : List X)
    → length (flat_map f xs) ≤ length (flat_map (λ x. bytes_field number (f x)) xs)
fields_longer number f [] = omega arith
fields_longer number f (x ∷ xs) = grind (arith, length-append, field_longer number (f x), fields_longer number f xs)

pub message_longer : (m : MessageDesc) → length (flat_map field_desc_bytes (out-MessageDesc m).fields)
    + length (flat_map message_desc_bytes (out-MessageDesc m).nested) ≤ length (message_desc_bytes m)
message_longer m =
    let fields = fields_longer 2 field_desc_bytes (out-MessageDesc m).fields in
    let nested = fields_longer 3 message_desc_bytes (out-MessageDesc m).nested in
    rw (message_desc_bytes_out m) (grind (arith, length-append, fields, nested))

pub service_longer : (s : ServiceDesc) → length (flat_map method_desc_bytes s.methods) ≤ length (service_desc_bytes s)
service_longer s = let methods = fields_longer 2 method_desc_bytes s.methods in grind (arith, length-append, methods)

pub file_longer : (f : FileDesc) → length (flat_map message_desc_bytes f.messages)
    + length (flat_map service_desc_bytes f.services) ≤ length (file_desc_bytes f)
file_longer f =
    let messages = fields_longer 4 message_desc_bytes f.messages in
    let services = fields_longer 6 service_desc_bytes f.services in
    grind (arith, length-append, messages, services)
