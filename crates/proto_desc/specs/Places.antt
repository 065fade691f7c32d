-- The places that a descriptor has: those of names, imports, types as spelled and options of fields.
use Rattle.std.specs.Prelude.{ℕ, List, [], ◌∷◌, ◌++◌, map, flat_map, Option, None, Some}
use Rattle.proto_desc.specs.declared.enumeration.EnumDesc.{EnumDesc}
use Rattle.proto_desc.specs.declared.enumeration.ValueDesc.{ValueDesc}
use Rattle.proto_desc.specs.declared.field.FieldDesc.{FieldDesc}
use Rattle.proto_desc.specs.declared.field.FieldKind.{FieldKind}
use Rattle.proto_desc.specs.declared.field.FieldKind.TheVariants.{Scalar, Named}
use Rattle.proto_desc.specs.declared.file.FileDesc.{FileDesc}
use Rattle.proto_desc.specs.declared.file.ImportDescriptor.{ImportDescriptor}
use Rattle.proto_desc.specs.declared.file.PackageDescriptor.{PackageDescriptor}
use Rattle.proto_desc.specs.declared.message.MessageDesc.{MessageDesc}
use Rattle.proto_desc.specs.declared.message.MessageDesc.TheOpen.{MessageDesc-F}
use Rattle.proto_desc.specs.declared.message.MessageDesc.TheFolds.{fold-MessageDesc}
use Rattle.proto_desc.specs.declared.oneof.OneofDesc.{OneofDesc}
use Rattle.proto_desc.specs.declared.options.OptionDescriptor.{OptionDescriptor}
use Rattle.proto_desc.specs.declared.service.MethodDesc.{MethodDesc}
use Rattle.proto_desc.specs.declared.service.ServiceDesc.{ServiceDesc}
use Rattle.proto_desc.specs.declared.type_name.TypeReference.{TypeReference}
use Rattle.proto_desc.specs.declared.type_name.TypeReference.TheVariants.{Spelled, Resolved}

abbrev pub reference_places : TypeReference → List ℕ
reference_places (Spelled place text) = place.offset ∷ []
reference_places (Resolved kind full_name) = []

abbrev pub kind_places : FieldKind → List ℕ
kind_places (Scalar s) = []
kind_places (Named r) = reference_places r

abbrev pub option_place : OptionDescriptor → ℕ
option_place o = o.place.offset

abbrev pub field_places : FieldDesc → List ℕ
field_places f = f.place.offset ∷ (kind_places f.field_type ++ map option_place f.options)

abbrev pub oneof_place : OneofDesc → ℕ
oneof_place o = o.place.offset

abbrev pub value_place : ValueDesc → ℕ
value_place v = v.place.offset

abbrev pub enum_places : EnumDesc → List ℕ
enum_places e = e.place.offset ∷ map value_place e.values

-- one message, with the places of each nested one in its place
abbrev pub places_step : MessageDesc-F (List ℕ) → List ℕ
places_step m = m.place.offset ∷ (flat_map field_places m.fields ++ map oneof_place m.oneofs
    ++ flat_map enum_places m.enums ++ flat_map (λ places. places) m.nested)

abbrev pub message_places : MessageDesc → List ℕ
message_places = fold-MessageDesc (List ℕ) places_step

abbrev pub method_places : MethodDesc → List ℕ
method_places m = m.place.offset ∷ (reference_places m.input ++ reference_places m.output)

abbrev pub service_places : ServiceDesc → List ℕ
service_places s = s.place.offset ∷ flat_map method_places s.methods

abbrev pub package_places : Option PackageDescriptor → List ℕ
package_places None = []
package_places (Some p) = p.place.offset ∷ []

abbrev pub import_place : ImportDescriptor → ℕ
import_place i = i.place.offset

abbrev pub places_of : FileDesc → List ℕ
places_of f =
    package_places f.«package» ++ map import_place f.imports ++ flat_map message_places f.messages
    ++ flat_map enum_places f.enums
    ++ flat_map service_places f.services
