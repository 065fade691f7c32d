-- A file with each spelled name of a type resolved, and all else as it was.
use Rattle.std.specs.Prelude.{◌≡◌, ℕ, List, [], ◌∷◌}
use Rattle.std.specs.List.{AllZip}
use Rattle.proto_desc.specs.DeclaredNames.{scoped, file_scope}
use Rattle.proto_desc.specs.declared.field.FieldDesc.{FieldDesc}
use Rattle.proto_desc.specs.declared.field.FieldKind.{FieldKind}
use Rattle.proto_desc.specs.declared.field.FieldKind.TheVariants.{Scalar, Named}
use Rattle.proto_desc.specs.declared.file.FileDesc.{FileDesc}
use Rattle.proto_desc.specs.declared.message.MessageDesc.{MessageDesc}
use Rattle.proto_desc.specs.declared.message.MessageDesc.TheOpen.{MessageDesc-F}
use Rattle.proto_desc.specs.declared.message.MessageDesc.TheViews.{out-MessageDesc}
use Rattle.proto_desc.specs.declared.name_kind.NameKind.{NameKind}
use Rattle.proto_desc.specs.declared.name_kind.NameKind.TheVariants as name_kind
use Rattle.proto_desc.specs.declared.service.MethodDesc.{MethodDesc}
use Rattle.proto_desc.specs.declared.service.ServiceDesc.{ServiceDesc}
use Rattle.proto_desc.specs.declared.type_name.TypeKind.{TypeKind}
use Rattle.proto_desc.specs.declared.type_name.TypeKind.TheVariants as type_kind
use Rattle.proto_desc.specs.declared.type_name.TypeReference.{TypeReference}
use Rattle.proto_desc.specs.declared.type_name.TypeReference.TheVariants.{Spelled, Resolved}
use Rattle.proto_names.specs.Occurrences.{Occurrence}
use Rattle.proto_names.specs.Resolution.{Resolves}
use Rattle.proto_types.specs.References.{Reference, field_scope}
use Rattle.proto_types.specs.declared.meaning.NamedType.{NamedType}

-- what a type's name is declared for
abbrev pub named_by : TypeKind → NameKind
named_by type_kind.Message = name_kind.Message
named_by type_kind.Enum = name_kind.Enum

-- a name in a file is that of this type
abbrev pub Means : List Occurrence → (ℕ → Type 0) → Reference → NamedType → Type 0
Means os Seen r t =
    (full : List ℕ) × Resolves os Seen r.scope r.text full (named_by t.kind) × (t.full_name ≡ 46 ∷ full)

-- a resolved name has its leading dot
abbrev pub IsTyped : List Occurrence → (ℕ → Type 0) → List ℕ → TypeReference → TypeReference → Type 0
IsTyped os Seen scope (Spelled place text) g =
    (full : List ℕ) × (what : TypeKind) × Resolves os Seen scope text full (named_by what)
    × (g ≡ Resolved what (46 ∷ full))
IsTyped os Seen scope (Resolved what full_name) g = g ≡ Resolved what full_name

abbrev pub IsTypedKind : List Occurrence → (ℕ → Type 0) → List ℕ → FieldKind → FieldKind → Type 0
IsTypedKind os Seen scope (Scalar s) g = g ≡ Scalar s
IsTypedKind os Seen scope (Named r) g = (t : TypeReference) × IsTyped os Seen scope r t × (g ≡ Named t)

abbrev pub with_type : FieldDesc → FieldKind → FieldDesc
with_type f t = record {
  name = f.name;
  place = f.place;
  number = f.number;
  label = f.label;
  field_type = t;
  oneof_index = f.oneof_index;
  json_name = f.json_name;
  proto3_optional = f.proto3_optional;
  options = f.options;
}

abbrev pub IsTypedField : List Occurrence → (ℕ → Type 0) → List ℕ → FieldDesc → FieldDesc → Type 0
IsTypedField os Seen scope f g = (t : FieldKind) × IsTypedKind os Seen scope f.field_type t × (g ≡ with_type f t)

-- one message, but for the messages within it
pub record IsTypedBody (os : List Occurrence) (Seen : ℕ → Type 0) (scope : List ℕ)
    (m g : MessageDesc-F MessageDesc) : Type 0 where
  pub fields_typed : AllZip (IsTypedField os Seen (field_scope scope m)) m.fields g.fields
  pub same_name : g.name ≡ m.name
  pub same_place : g.place ≡ m.place
  pub same_enums : g.enums ≡ m.enums
  pub same_oneofs : g.oneofs ≡ m.oneofs
  pub same_ranges : g.reserved_ranges ≡ m.reserved_ranges
  pub same_reserved : g.reserved_names ≡ m.reserved_names
  pub same_options : g.options ≡ m.options
  pub same_entry : g.is_map_entry ≡ m.is_map_entry

mutual
  -- a message in a scope, with its nested ones in its own
  pub data IsTypedMessage (os : List Occurrence) (Seen : ℕ → Type 0) : List ℕ → MessageDesc → MessageDesc → Type 0 where
    message : (scope : List ℕ) (m g : MessageDesc) → IsTypedBody os Seen scope (out-MessageDesc m) (out-MessageDesc g)
        → AreTypedMessages os Seen (scoped scope (out-MessageDesc m).name) (out-MessageDesc m).nested
        (out-MessageDesc g).nested → IsTypedMessage os Seen scope m g

  -- messages of one scope
  pub data AreTypedMessages (os : List Occurrence) (Seen : ℕ → Type 0) : List ℕ → List MessageDesc → List MessageDesc
      → Type 0 where
    none : (scope : List ℕ) → AreTypedMessages os Seen scope [] []
    more : (scope : List ℕ) (m g : MessageDesc) (ms gs : List MessageDesc) → IsTypedMessage os Seen scope m g
        → AreTypedMessages os Seen scope ms gs → AreTypedMessages os Seen scope (m ∷ ms) (g ∷ gs)

pub record IsTypedMethod (os : List Occurrence) (Seen : ℕ → Type 0) (scope : List ℕ) (m g : MethodDesc) : Type 0 where
  pub input_typed : IsTyped os Seen scope m.input g.input
  pub output_typed : IsTyped os Seen scope m.output g.output
  pub same : g ≡ record {
    name = m.name;
    place = m.place;
    input = g.input;
    output = g.output;
    options = m.options;
    client_streaming = m.client_streaming;
    server_streaming = m.server_streaming;
  }

pub record IsTypedService (os : List Occurrence) (Seen : ℕ → Type 0) (scope : List ℕ) (s g : ServiceDesc) : Type 0 where
  pub methods_typed : AllZip (IsTypedMethod os Seen (scoped scope s.name)) s.methods g.methods
  pub same : g ≡ record { name = s.name; place = s.place; methods = g.methods; options = s.options }

pub record IsTypedIn (os : List Occurrence) (Seen : ℕ → Type 0) (scope : List ℕ) (f g : FileDesc) : Type 0 where
  pub messages_typed : AreTypedMessages os Seen scope f.messages g.messages
  pub services_typed : AllZip (IsTypedService os Seen scope) f.services g.services
  pub same : g ≡ record {
    name = f.name;
    «package» = f.«package»;
    imports = f.imports;
    messages = g.messages;
    enums =
        f.enums;
    services = g.services;
    options = f.options;
  }

abbrev pub IsTypedFile : List Occurrence → (ℕ → Type 0) → FileDesc → FileDesc → Type 0
IsTypedFile os Seen f g = IsTypedIn os Seen (file_scope f.«package») f g
