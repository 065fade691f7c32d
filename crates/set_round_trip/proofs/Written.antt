-- Each message of a descriptor that fits, as a row of its fields.
use Rattle.std.proofs.Common.{ℕ, ◌+◌, ◌<◌, ◌≤◌, ◌^◌, Bool, true, false, List, [], ◌∷◌, length, flat_map, codes, Option, None, Some, IfSome, arith}
use Rattle.proto_base.specs.declared.scalar_type.ScalarType.{ScalarType}
use Rattle.proto_base.specs.declared.scalar_type.ScalarType.TheVariants as scalar
use Rattle.proto_desc.specs.declared.enumeration.EnumDesc.{EnumDesc}
use Rattle.proto_desc.specs.declared.enumeration.ValueDesc.{ValueDesc}
use Rattle.proto_desc.specs.declared.field.FieldDesc.{FieldDesc}
use Rattle.proto_desc.specs.declared.field.FieldKind.{FieldKind}
use Rattle.proto_desc.specs.declared.field.FieldKind.TheVariants.{Scalar, Named}
use Rattle.proto_desc.specs.declared.field.FieldLabel.{FieldLabel}
use Rattle.proto_desc.specs.declared.field.FieldLabel.TheVariants.{Optional, Repeated}
use Rattle.proto_desc.specs.declared.file.FileDesc.{FileDesc}
use Rattle.proto_desc.specs.declared.file.ImportDescriptor.{ImportDescriptor}
use Rattle.proto_desc.specs.declared.message.MessageDesc.{MessageDesc}
use Rattle.proto_desc.specs.declared.message.MessageDesc.TheViews.{out-MessageDesc}
use Rattle.proto_desc.specs.declared.oneof.OneofDesc.{OneofDesc}
use Rattle.proto_desc.specs.declared.options.OptionDescriptor.{OptionDescriptor}
use Rattle.proto_desc.specs.declared.service.MethodDesc.{MethodDesc}
use Rattle.proto_desc.specs.declared.service.ServiceDesc.{ServiceDesc}
use Rattle.proto_desc.specs.declared.type_name.TypeKind.{TypeKind}
use Rattle.proto_desc.specs.declared.type_name.TypeKind.TheVariants as type_kind
use Rattle.proto_desc.specs.declared.type_name.TypeReference.{TypeReference}
use Rattle.proto_desc.specs.declared.type_name.TypeReference.TheVariants.{Spelled, Resolved}
use Rattle.wire_bytes.specs.Descriptor.{enum_desc_bytes, enum_range_bytes, field_desc_bytes, file_desc_bytes, flag_field, index_field, label_number, low_bits, message_desc_bytes, message_options_bytes, method_desc_bytes, oneof_desc_bytes, option_bytes, options_field, package_name, public_field, public_fields, range_bytes, reference_number, reference_text, scalar_number, service_desc_bytes, settings_field, text_field, type_kind_number, type_name, type_number, value_desc_bytes}
use Rattle.set_round_trip.specs.Fits.{FieldFits, ValueFits}
use Rattle.set_round_trip.proofs.Entries.{enum_entries, field_entries, file_entries, flag_entry, import_path, index_entry, itself, message_bytes, message_entries, method_entries, oneof_entries, options_entry, public_entries, public_entry, service_entries, settings_entry, text_entry, value_entries}
use Rattle.set_round_trip.proofs.Rows.{IsWrittenAs, write_both, write_bytes, write_each, write_none, write_number}

-- ---- numbers of types and labels

label_small : (l : FieldLabel) → label_number l < 2 ^ 64
label_small Optional = omega arith
label_small Repeated = omega arith

scalar_small : (s : ScalarType) → scalar_number s < 2 ^ 64
scalar_small scalar.Double = omega arith
scalar_small scalar.Float = omega arith
scalar_small scalar.Int64 = omega arith
scalar_small scalar.Uint64 = omega arith
scalar_small scalar.Int32 = omega arith
scalar_small scalar.Fixed64 = omega arith
scalar_small scalar.Fixed32 = omega arith
scalar_small scalar.Bool = omega arith
scalar_small scalar.String = omega arith
scalar_small scalar.Bytes = omega arith
scalar_small scalar.Uint32 = omega arith
scalar_small scalar.Sfixed32 = omega arith
scalar_small scalar.Sfixed64 = omega arith
scalar_small scalar.Sint32 = omega arith
scalar_small scalar.Sint64 = omega arith

kind_small : (k : TypeKind) → type_kind_number k < 2 ^ 64
kind_small type_kind.Message = omega arith
kind_small type_kind.Enum = omega arith

reference_small : (r : TypeReference) → reference_number r < 2 ^ 64
reference_small (Spelled place text) = omega arith
reference_small (Resolved kind full_name) = kind_small kind

type_small : (k : FieldKind) → type_number k < 2 ^ 64
type_small (Scalar s) = scalar_small s
type_small (Named r) = reference_small r

-- ---- fields that may be left out

write_text : (n : ℕ) (o : Option (List ℕ)) → 0 < n → n < 2 ^ 29 → IsWrittenAs (text_field n o) (text_entry n o)
write_text n None positive small = write_none
write_text n (Some text) positive small = write_bytes n text positive small

write_index : (n : ℕ) (o : Option ℕ) → 0 < n → n < 2 ^ 29 → IfSome o (λ i. i < 2 ^ 64)
    → IsWrittenAs (index_field n o) (index_entry n o)
write_index n None positive small fits = write_none
write_index n (Some index) positive small fits = write_number n index positive small fits

write_flag : (n : ℕ) (b : Bool) → 0 < n → n < 2 ^ 29 → IsWrittenAs (flag_field n b) (flag_entry n b)
write_flag n true positive small = write_number n 1 positive small (omega arith)
write_flag n false positive small = write_none

write_options : (n : ℕ) (text : List ℕ) → 0 < n → n < 2 ^ 29 → IsWrittenAs (options_field n text) (options_entry n text)
write_options n [] positive small = write_none
write_options n (b ∷ bs) positive small = write_bytes n (b ∷ bs) positive small

write_settings : (n : ℕ) (os : List OptionDescriptor) → 0 < n → n < 2 ^ 29
    → IsWrittenAs (settings_field n os) (settings_entry n os)
write_settings n os positive small = write_options n (flat_map option_bytes os) positive small

write_public : (b : Bool) (k : ℕ) → k < 2 ^ 64 → IsWrittenAs (public_field b k) (public_entry b k)
write_public true k fits = write_number 10 k (omega arith) (omega arith) fits
write_public false k fits = write_none

write_publics : (k : ℕ) (is : List ImportDescriptor) → k + length is ≤ 2 ^ 64
    → IsWrittenAs (public_fields k is) (public_entries k is)
write_publics k [] fits = write_none
write_publics k (i ∷ is) fits =
    write_both (write_public i.is_public k (omega (arith, fits))) (write_publics (k + 1) is (omega (arith, fits)))

-- ---- messages

pub write_field : (room : ℕ) (f : FieldDesc) → FieldFits room f → IsWrittenAs (field_desc_bytes f) (field_entries f)
write_field room f fits = write_both (write_both (write_both (write_both (write_both (write_both (write_both (write_both
    (write_bytes 1 f.name (omega arith) (omega arith))
    (write_number 3 f.number (omega arith) (omega arith) fits.number))
    (write_number 4 (label_number f.label) (omega arith) (omega arith) (label_small f.label)))
    (write_number 5 (type_number f.field_type) (omega arith) (omega arith) (type_small f.field_type)))
    (write_text 6 (type_name f.field_type) (omega arith) (omega arith)))
    (write_settings 8 f.options (omega arith) (omega arith)))
    (write_index 9 f.oneof_index (omega arith) (omega arith) fits.index))
    (write_bytes 10 f.json_name (omega arith) (omega arith)))
    (write_flag 17 f.proto3_optional (omega arith) (omega arith))

pub write_oneof : (o : OneofDesc) → IsWrittenAs (oneof_desc_bytes o) (oneof_entries o)
write_oneof o = write_bytes 1 o.name (omega arith) (omega arith)

pub write_value : (room : ℕ) (v : ValueDesc) → ValueFits room v → IsWrittenAs (value_desc_bytes v) (value_entries v)
write_value room v fits = write_both (write_both (write_bytes 1 v.name (omega arith) (omega arith))
    (write_number 2 (low_bits v.number) (omega arith) (omega arith) fits.number))
    (write_settings 3 v.options (omega arith) (omega arith))

pub write_enum : (e : EnumDesc) → IsWrittenAs (enum_desc_bytes e) (enum_entries e)
write_enum e = write_both (write_both (write_both (write_both (write_bytes 1 e.name (omega arith) (omega arith))
    (write_each 2 value_desc_bytes e.values (omega arith) (omega arith)))
    (write_settings 3 e.options (omega arith) (omega arith)))
    (write_each 4 enum_range_bytes e.reserved_ranges (omega arith) (omega arith)))
    (write_each 5 itself e.reserved_names (omega arith) (omega arith))

pub write_method : (m : MethodDesc) → IsWrittenAs (method_desc_bytes m) (method_entries m)
write_method m = write_both (write_both (write_both (write_both (write_both
    (write_bytes 1 m.name (omega arith) (omega arith))
    (write_bytes 2 (reference_text m.input) (omega arith) (omega arith)))
    (write_bytes 3 (reference_text m.output) (omega arith) (omega arith)))
    (write_settings 4 m.options (omega arith) (omega arith)))
    (write_flag 5 m.client_streaming (omega arith) (omega arith)))
    (write_flag 6 m.server_streaming (omega arith) (omega arith))

pub write_service : (s : ServiceDesc) → IsWrittenAs (service_desc_bytes s) (service_entries s)
write_service s = write_both (write_both (write_bytes 1 s.name (omega arith) (omega arith))
    (write_each 2 method_desc_bytes s.methods (omega arith) (omega arith)))
    (write_settings 3 s.options (omega arith) (omega arith))

pub write_message : (m : MessageDesc) → IsWrittenAs (message_desc_bytes m) (message_entries m)
write_message m =
    let body = out-MessageDesc m in
    rw (message_bytes m) (write_both (write_both (write_both (write_both (write_both (write_both (write_both
    (write_bytes 1 body.name (omega arith) (omega arith))
    (write_each 2 field_desc_bytes body.fields (omega arith) (omega arith)))
    (write_each 3 message_desc_bytes body.nested (omega arith) (omega arith)))
    (write_each 4 enum_desc_bytes body.enums (omega arith) (omega arith)))
    (write_options 7 (message_options_bytes body.options body.is_map_entry) (omega arith) (omega arith)))
    (write_each 8 oneof_desc_bytes body.oneofs (omega arith) (omega arith)))
    (write_each 9 range_bytes body.reserved_ranges (omega arith) (omega arith)))
    (write_each 10 itself body.reserved_names (omega arith) (omega arith)))

pub write_file : (f : FileDesc) → length f.imports ≤ 2 ^ 64 → IsWrittenAs (file_desc_bytes f) (file_entries f)
write_file f few = write_both (write_both (write_both (write_both (write_both (write_both (write_both (write_both
    (write_bytes 1 f.name (omega arith) (omega arith))
    (write_text 2 (package_name f.«package») (omega arith) (omega arith)))
    (write_each 3 import_path f.imports (omega arith) (omega arith)))
    (write_each 4 message_desc_bytes f.messages (omega arith) (omega arith)))
    (write_each 5 enum_desc_bytes f.enums (omega arith) (omega arith)))
    (write_each 6 service_desc_bytes f.services (omega arith) (omega arith)))
    (write_settings 8 f.options (omega arith) (omega arith)))
    (write_publics 0 f.imports (omega (arith, few))))
    (write_bytes 12 (codes "proto3") (omega arith) (omega arith))
