-- Whether the names of types are resolved.
use Rattle.std.specs.Prelude.{Bool, true, false, ◌&&◌, List}
use Rattle.std.specs.List.{list_all}
use Rattle.proto_desc.specs.declared.type_name.TypeReference.{TypeReference}
use Rattle.proto_desc.specs.declared.type_name.TypeReference.TheVariants.{Spelled, Resolved}
use Rattle.proto_desc.specs.declared.field.FieldKind.{FieldKind}
use Rattle.proto_desc.specs.declared.field.FieldKind.TheVariants.{Scalar, Named}
use Rattle.proto_desc.specs.declared.field.FieldDesc.{FieldDesc}
use Rattle.proto_desc.specs.declared.service.MethodDesc.{MethodDesc}
use Rattle.proto_desc.specs.declared.service.ServiceDesc.{ServiceDesc}
use Rattle.proto_desc.specs.declared.file.FileDesc.{FileDesc}
use Rattle.proto_desc.specs.declared.message.MessageDesc.{MessageDesc}
use Rattle.proto_desc.specs.declared.message.MessageDesc.TheOpen.{MessageDesc-F}
use Rattle.proto_desc.specs.declared.message.MessageDesc.TheFolds.{fold-MessageDesc}

abbrev pub reference_resolved : TypeReference → Bool
reference_resolved (Spelled place text) = false
reference_resolved (Resolved kind full_name) = true

abbrev pub kind_resolved : FieldKind → Bool
kind_resolved (Scalar s) = true
kind_resolved (Named r) = reference_resolved r

abbrev pub field_resolved : FieldDesc → Bool
field_resolved f = kind_resolved f.field_type

abbrev pub fields_resolved : List FieldDesc → Bool
fields_resolved fs = list_all field_resolved fs

abbrev pub method_resolved : MethodDesc → Bool
method_resolved m = reference_resolved m.input && reference_resolved m.output

abbrev pub service_resolved : ServiceDesc → Bool
service_resolved s = list_all method_resolved s.methods

abbrev pub services_resolved : List ServiceDesc → Bool
services_resolved ss = list_all service_resolved ss

-- one message, with the answer of each nested one in its place
abbrev pub resolved_step : MessageDesc-F Bool → Bool
resolved_step m = fields_resolved m.fields && list_all (λ answer. answer) m.nested

abbrev pub message_resolved : MessageDesc → Bool
message_resolved = fold-MessageDesc Bool resolved_step

abbrev pub file_resolved : FileDesc → Bool
file_resolved f = list_all message_resolved f.messages && services_resolved f.services
