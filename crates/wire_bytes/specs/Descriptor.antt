-- The bytes of descriptors: the fields of each message of `descriptor.proto` by rising number, repeated ones in their
-- order.
use Rattle.std.specs.Prelude.{ℕ, ◌+◌, ◌-◌, ◌%◌, ◌^◌, Bool, true, false, List, [], ◌∷◌, ◌++◌, flat_map, Option, None, Some, codes}
use Rattle.proto_base.specs.declared.scalar_type.ScalarType.{ScalarType}
use Rattle.proto_base.specs.declared.scalar_type.ScalarType.TheVariants as scalar
use Rattle.proto_desc.specs.declared.enumeration.EnumDesc.{EnumDesc}
use Rattle.proto_desc.specs.declared.enumeration.EnumReservedRange.{EnumReservedRange}
use Rattle.proto_desc.specs.declared.enumeration.ValueDesc.{ValueDesc}
use Rattle.proto_desc.specs.declared.field.FieldDesc.{FieldDesc}
use Rattle.proto_desc.specs.declared.field.FieldKind.{FieldKind}
use Rattle.proto_desc.specs.declared.field.FieldKind.TheVariants.{Scalar, Named}
use Rattle.proto_desc.specs.declared.field.FieldLabel.{FieldLabel}
use Rattle.proto_desc.specs.declared.field.FieldLabel.TheVariants.{Optional, Repeated}
use Rattle.proto_desc.specs.declared.file.FileDesc.{FileDesc}
use Rattle.proto_desc.specs.declared.file.ImportDescriptor.{ImportDescriptor}
use Rattle.proto_desc.specs.declared.file.PackageDescriptor.{PackageDescriptor}
use Rattle.proto_desc.specs.declared.message.MessageDesc.{MessageDesc}
use Rattle.proto_desc.specs.declared.message.MessageDesc.TheOpen.{MessageDesc-F}
use Rattle.proto_desc.specs.declared.message.MessageDesc.TheFolds.{fold-MessageDesc}
use Rattle.proto_desc.specs.declared.message.ReservedRange.{ReservedRange}
use Rattle.proto_desc.specs.declared.oneof.OneofDesc.{OneofDesc}
use Rattle.proto_desc.specs.declared.options.OptionDescriptor.{OptionDescriptor}
use Rattle.proto_desc.specs.declared.options.OptionValue.{OptionValue}
use Rattle.proto_desc.specs.declared.options.OptionValue.TheVariants.{Text, Number}
use Rattle.proto_desc.specs.declared.service.MethodDesc.{MethodDesc}
use Rattle.proto_desc.specs.declared.service.ServiceDesc.{ServiceDesc}
use Rattle.proto_desc.specs.declared.type_name.TypeKind.{TypeKind}
use Rattle.proto_desc.specs.declared.type_name.TypeKind.TheVariants as type_kind
use Rattle.proto_desc.specs.declared.type_name.TypeReference.{TypeReference}
use Rattle.proto_desc.specs.declared.type_name.TypeReference.TheVariants.{Spelled, Resolved}
use Rattle.proto_desc.specs.declared.whole_number.WholeNumber.{WholeNumber}
use Rattle.wire_format.specs.Field.{number_field, bytes_field}

-- a flag, which is written where it is set
abbrev pub flag_field : ℕ → Bool → List ℕ
flag_field number true = number_field number 1
flag_field number false = []

-- a text or a number that may be left out
abbrev pub text_field : ℕ → Option (List ℕ) → List ℕ
text_field number None = []
text_field number (Some text) = bytes_field number text

abbrev pub index_field : ℕ → Option ℕ → List ℕ
index_field number None = []
index_field number (Some index) = number_field number index

-- the low 64 bits of a whole number's two's complement
abbrev pub low_bits_of : Bool → ℕ → ℕ
low_bits_of true magnitude = (2 ^ 64 - magnitude) % 2 ^ 64
low_bits_of false magnitude = magnitude

abbrev pub low_bits : WholeNumber → ℕ
low_bits n = low_bits_of n.is_negative n.magnitude

abbrev pub setting_bytes : ℕ → OptionValue → List ℕ
setting_bytes number (Text text) = bytes_field number text
setting_bytes number (Number n) = number_field number n

abbrev pub option_bytes : OptionDescriptor → List ℕ
option_bytes o = setting_bytes o.number o.value

-- the message of an element's options, which is left out where it is empty
abbrev pub options_field : ℕ → List ℕ → List ℕ
options_field number [] = []
options_field number (b ∷ bs) = bytes_field number (b ∷ bs)

abbrev pub settings_field : ℕ → List OptionDescriptor → List ℕ
settings_field number os = options_field number (flat_map option_bytes os)

-- `FieldDescriptorProto.Type`
abbrev pub scalar_number : ScalarType → ℕ
scalar_number scalar.Double = 1
scalar_number scalar.Float = 2
scalar_number scalar.Int64 = 3
scalar_number scalar.Uint64 = 4
scalar_number scalar.Int32 = 5
scalar_number scalar.Fixed64 = 6
scalar_number scalar.Fixed32 = 7
scalar_number scalar.Bool = 8
scalar_number scalar.String = 9
scalar_number scalar.Bytes = 12
scalar_number scalar.Uint32 = 13
scalar_number scalar.Sfixed32 = 15
scalar_number scalar.Sfixed64 = 16
scalar_number scalar.Sint32 = 17
scalar_number scalar.Sint64 = 18

abbrev pub type_kind_number : TypeKind → ℕ
type_kind_number type_kind.Message = 11
type_kind_number type_kind.Enum = 14

-- a name as spelled is in no file whose bytes are asked for: all names are resolved there
abbrev pub reference_number : TypeReference → ℕ
reference_number (Spelled place text) = 11
reference_number (Resolved kind full_name) = type_kind_number kind

abbrev pub reference_text : TypeReference → List ℕ
reference_text (Spelled place text) = text
reference_text (Resolved kind full_name) = full_name

abbrev pub type_number : FieldKind → ℕ
type_number (Scalar s) = scalar_number s
type_number (Named r) = reference_number r

abbrev pub type_name : FieldKind → Option (List ℕ)
type_name (Scalar s) = None
type_name (Named r) = Some (reference_text r)

-- `FieldDescriptorProto.Label`
abbrev pub label_number : FieldLabel → ℕ
label_number Optional = 1
label_number Repeated = 3

-- name 1, number 3, label 4, type 5, type_name 6, options 8, oneof_index 9, json_name 10, proto3_optional 17
abbrev pub field_desc_bytes : FieldDesc → List ℕ
field_desc_bytes f =
    bytes_field 1 f.name ++ number_field 3 f.number ++ number_field 4 (label_number f.label)
    ++ number_field 5 (type_number f.field_type)
    ++ text_field 6 (type_name f.field_type) ++ settings_field 8 f.options ++ index_field 9 f.oneof_index
    ++ bytes_field 10 f.json_name
    ++ flag_field 17 f.proto3_optional

-- name 1
abbrev pub oneof_desc_bytes : OneofDesc → List ℕ
oneof_desc_bytes o = bytes_field 1 o.name

-- name 1, number 2, options 3
abbrev pub value_desc_bytes : ValueDesc → List ℕ
value_desc_bytes v = bytes_field 1 v.name ++ number_field 2 (low_bits v.number) ++ settings_field 3 v.options

-- start 1, end 2; the end is one of the reserved numbers
abbrev pub enum_range_bytes : EnumReservedRange → List ℕ
enum_range_bytes r = number_field 1 (low_bits r.start) ++ number_field 2 (low_bits r.end)

-- name 1, value 2, options 3, reserved_range 4, reserved_name 5
abbrev pub enum_desc_bytes : EnumDesc → List ℕ
enum_desc_bytes e =
    bytes_field 1 e.name ++ flat_map (λ v. bytes_field 2 (value_desc_bytes v)) e.values ++ settings_field 3 e.options
    ++ flat_map (λ r. bytes_field 4 (enum_range_bytes r)) e.reserved_ranges ++ flat_map (bytes_field 5) e.reserved_names

-- start 1, end 2; the end is the number behind the last reserved one
abbrev pub range_bytes : ReservedRange → List ℕ
range_bytes r = number_field 1 r.start ++ number_field 2 ((r.end + 1) % 2 ^ 64)

-- the options of a message, and map_entry 7 of an entry
abbrev pub message_options_bytes : List OptionDescriptor → Bool → List ℕ
message_options_bytes os is_map_entry = flat_map option_bytes os ++ flag_field 7 is_map_entry

-- one message, with the bytes of each nested one in its place:
-- name 1, field 2, nested_type 3, enum_type 4, options 7, oneof_decl 8, reserved_range 9, reserved_name 10
abbrev pub message_step : MessageDesc-F (List ℕ) → List ℕ
message_step m =
    bytes_field 1 m.name ++ flat_map (λ f. bytes_field 2 (field_desc_bytes f)) m.fields
    ++ flat_map (bytes_field 3) m.nested
    ++ flat_map (λ e. bytes_field 4 (enum_desc_bytes e)) m.enums
    ++ options_field 7 (message_options_bytes m.options m.is_map_entry)
    ++ flat_map (λ o. bytes_field 8 (oneof_desc_bytes o)) m.oneofs
    ++ flat_map (λ r. bytes_field 9 (range_bytes r)) m.reserved_ranges
    ++ flat_map (bytes_field 10) m.reserved_names

abbrev pub message_desc_bytes : MessageDesc → List ℕ
message_desc_bytes = fold-MessageDesc (List ℕ) message_step

-- name 1, input_type 2, output_type 3, options 4, client_streaming 5, server_streaming 6
abbrev pub method_desc_bytes : MethodDesc → List ℕ
method_desc_bytes m =
    bytes_field 1 m.name ++ bytes_field 2 (reference_text m.input) ++ bytes_field 3 (reference_text m.output)
    ++ settings_field 4 m.options
    ++ flag_field 5 m.client_streaming ++ flag_field 6 m.server_streaming

-- name 1, method 2, options 3
abbrev pub service_desc_bytes : ServiceDesc → List ℕ
service_desc_bytes s =
    bytes_field 1 s.name ++ flat_map (λ m. bytes_field 2 (method_desc_bytes m)) s.methods ++ settings_field 3 s.options

abbrev pub package_name : Option PackageDescriptor → Option (List ℕ)
package_name None = None
package_name (Some p) = Some p.name

abbrev pub public_field : Bool → ℕ → List ℕ
public_field true position = number_field 10 position
public_field false position = []

-- the positions of the public imports among the imports, of which the first has this position
abbrev pub public_fields : ℕ → List ImportDescriptor → List ℕ
public_fields position [] = []
public_fields position (i ∷ is) = public_field i.is_public position ++ public_fields (position + 1) is

-- name 1, package 2, dependency 3, message_type 4, enum_type 5, service 6, options 8, public_dependency 10, syntax 12
abbrev pub file_desc_bytes : FileDesc → List ℕ
file_desc_bytes f =
    bytes_field 1 f.name ++ text_field 2 (package_name f.package) ++ flat_map (λ i. bytes_field 3 i.path) f.imports
    ++ flat_map (λ m. bytes_field 4 (message_desc_bytes m)) f.messages
    ++ flat_map (λ e. bytes_field 5 (enum_desc_bytes e)) f.enums
    ++ flat_map (λ s. bytes_field 6 (service_desc_bytes s)) f.services ++ settings_field 8 f.options
    ++ public_fields 0 f.imports
    ++ bytes_field 12 (codes "proto3")
