-- The names of types that a file spells, and what can be wrong with them.
use Rattle.std.specs.Prelude.{◌≡◌, ◌⊎◌, ℕ, List, [], ◌∷◌, ◌++◌, flat_map, Contains, if◌then◌else◌}
use Rattle.proto_base.specs.declared.kind.Kind.TheVariants as kind
use Rattle.proto_base.specs.declared.place.Place.{Place}
use Rattle.proto_desc.specs.DeclaredNames.{scoped, file_scope}
use Rattle.proto_desc.specs.declared.field.FieldDesc.{FieldDesc}
use Rattle.proto_desc.specs.declared.field.FieldKind.{FieldKind}
use Rattle.proto_desc.specs.declared.field.FieldKind.TheVariants.{Scalar, Named}
use Rattle.proto_desc.specs.declared.file.FileDesc.{FileDesc}
use Rattle.proto_desc.specs.declared.message.MessageDesc.{MessageDesc}
use Rattle.proto_desc.specs.declared.message.MessageDesc.TheOpen.{MessageDesc-F}
use Rattle.proto_desc.specs.declared.message.MessageDesc.TheFolds.{fold-MessageDesc}
use Rattle.proto_desc.specs.declared.name_kind.NameKind.TheVariants as name_kind
use Rattle.proto_desc.specs.declared.options.OptionDescriptor.{OptionDescriptor}
use Rattle.proto_desc.specs.declared.options.OptionValue.TheVariants as value
use Rattle.proto_desc.specs.declared.service.MethodDesc.{MethodDesc}
use Rattle.proto_desc.specs.declared.service.ServiceDesc.{ServiceDesc}
use Rattle.proto_desc.specs.declared.type_name.TypeReference.{TypeReference}
use Rattle.proto_desc.specs.declared.type_name.TypeReference.TheVariants.{Spelled, Resolved}
use Rattle.proto_base.specs.Least.{spot}
use Rattle.proto_base.specs.Sets.{Each}
use Rattle.proto_base.specs.declared.spot.Spot.{Spot}
use Rattle.proto_names.specs.Occurrences.{Occurrence}
use Rattle.proto_names.specs.Resolution.{Resolves, ResolvesNowhere}
use Rattle.proto_names.specs.declared.resolve.Want.{Want}
use Rattle.proto_names.specs.declared.resolve.Want.TheVariants as want

-- a spelled name of a type, in the scope from which it is searched outwards, with the options of the field that it
-- types
pub record Reference : Type 0 where
  pub scope : List ℕ
  pub text : List ℕ
  pub place : Place
  pub wanted : Want
  pub options : List OptionDescriptor

abbrev pub reference_to : List ℕ → List ℕ → Place → Want → List OptionDescriptor → Reference
reference_to scope text place wanted options =
    record { scope = scope; text = text; place = place; wanted = wanted; options = options }

abbrev pub references_of_type : List ℕ → Want → List OptionDescriptor → TypeReference → List Reference
references_of_type scope wanted options (Spelled place text) = reference_to scope text place wanted options ∷ []
references_of_type scope wanted options (Resolved what full_name) = []

abbrev pub references_of_kind : List ℕ → List OptionDescriptor → FieldKind → List Reference
references_of_kind scope options (Scalar s) = []
references_of_kind scope options (Named r) = references_of_type scope want.AnyType options r

abbrev pub references_of_field : List ℕ → FieldDesc → List Reference
references_of_field scope f = references_of_kind scope f.options f.field_type

-- the scope from which the types of a message's fields are searched: of a map entry the one around it, where the map
-- field stands
abbrev pub field_scope : {X : Type 0} → List ℕ → MessageDesc-F X → List ℕ
field_scope scope m = if m.is_map_entry then scope else scoped scope m.name

abbrev pub references_step : MessageDesc-F (List ℕ → List Reference) → List ℕ → List Reference
references_step m scope = flat_map (references_of_field (field_scope scope m)) m.fields
    ++ flat_map (λ nested. nested (scoped scope m.name)) m.nested

abbrev pub references_by_message : MessageDesc → List ℕ → List Reference
references_by_message = fold-MessageDesc (List ℕ → List Reference) references_step

-- a method's types are messages
abbrev pub references_of_method : List ℕ → MethodDesc → List Reference
references_of_method scope m =
    references_of_type scope want.MessageOnly [] m.input ++ references_of_type scope want.MessageOnly [] m.output

abbrev pub references_of_service : List ℕ → ServiceDesc → List Reference
references_of_service scope s = flat_map (references_of_method (scoped scope s.name)) s.methods

abbrev pub references_in : List ℕ → FileDesc → List Reference
references_in scope f =
    flat_map (λ m. references_by_message m scope) f.messages ++ flat_map (references_of_service scope) f.services

abbrev pub references : FileDesc → List Reference
references f = references_in (file_scope f.«package») f

-- ---- what is wrong

abbrev pub TypeNotFound : List Occurrence → (ℕ → Type 0) → Reference → Spot → Type 0
TypeNotFound os Seen r x = ResolvesNowhere os Seen r.scope r.text × (x ≡ spot r.place kind.TypeNotFound)

abbrev pub TypeNotMessage : List Occurrence → (ℕ → Type 0) → Reference → Spot → Type 0
TypeNotMessage os Seen r x = (r.wanted ≡ want.MessageOnly)
    × ((full : List ℕ) × Resolves os Seen r.scope r.text full name_kind.Enum) × (x ≡ spot r.place kind.TypeNotMessage)

-- `packed`, field 2 of `FieldOptions`, is set
abbrev pub IsPacked : OptionDescriptor → Type 0
IsPacked o = (o.number ≡ 2) × (o.value ≡ value.Number 1)

abbrev pub PackedOnMessage : List Occurrence → (ℕ → Type 0) → Reference → Spot → Type 0
PackedOnMessage os Seen r x =
    ((full : List ℕ) × Resolves os Seen r.scope r.text full name_kind.Message)
    × (o : OptionDescriptor) × Contains r.options o × IsPacked o
    × (x ≡ spot o.place kind.PackedOnMessage)

abbrev pub ReferenceBreaks : List Occurrence → (ℕ → Type 0) → Reference → Spot → Type 0
ReferenceBreaks os Seen r x = TypeNotFound os Seen r x ⊎ TypeNotMessage os Seen r x ⊎ PackedOnMessage os Seen r x

-- what is wrong with the types of a file
abbrev pub TypesBreak : List Occurrence → (ℕ → Type 0) → FileDesc → Spot → Type 0
TypesBreak os Seen f x = Each (references f) (ReferenceBreaks os Seen) x
