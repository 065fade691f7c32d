-- Fields, map fields and members of oneofs.
use Rattle.std.specs.Prelude.{ℕ, ◌+◌, Bool, true, false, cond, List, [], ◌∷◌, ◌++◌, length, map, flat_map, Option, Some, None}
use Rattle.proto_base.specs.declared.place.Place.{Place}
use Rattle.proto_base.specs.declared.place.Span.{Span}
use Rattle.proto_tree.specs.declared.field.Declarator.{Declarator}
use Rattle.proto_tree.specs.declared.field.Field.{Field}
use Rattle.proto_tree.specs.declared.field.FieldType.{FieldType}
use Rattle.proto_tree.specs.declared.field.FieldType.TheVariants as field_type
use Rattle.proto_tree.specs.declared.field.Label.{Label}
use Rattle.proto_tree.specs.declared.field.Label.TheVariants as label
use Rattle.proto_tree.specs.declared.map_field.MapField.{MapField}
use Rattle.proto_tree.specs.declared.message.MessageItem.{MessageItem}
use Rattle.proto_tree.specs.declared.message.MessageItem as message_item
use Rattle.proto_tree.specs.declared.name.FullName.{FullName}
use Rattle.proto_tree.specs.declared.name.TypeName.{TypeName}
use Rattle.proto_tree.specs.declared.oneof.OneofField.{OneofField}
use Rattle.proto_desc.specs.declared.field.FieldDesc.{FieldDesc}
use Rattle.proto_desc.specs.declared.field.FieldKind.{FieldKind}
use Rattle.proto_desc.specs.declared.field.FieldKind.TheVariants.{Scalar, Named}
use Rattle.proto_desc.specs.declared.field.FieldLabel.{FieldLabel}
use Rattle.proto_desc.specs.declared.field.FieldLabel.TheVariants.{Optional, Repeated}
use Rattle.proto_desc.specs.declared.rules.Element.TheVariants as element
use Rattle.proto_desc.specs.declared.type_name.TypeKind.TheVariants as type_kind
use Rattle.proto_desc.specs.declared.type_name.TypeReference.{TypeReference}
use Rattle.proto_desc.specs.declared.type_name.TypeReference.TheVariants.{Spelled, Resolved}
use Rattle.proto_lower.specs.Names.{entry_name_of}
use Rattle.proto_options.specs.Options.{bracketed}
use Rattle.proto_options.specs.Statements.{message_oneof, oneof_field}
use Rattle.proto_lower.specs.Options.{options_of, json_name_by}
use Rattle.proto_tree.specs.Text.{spelled}

-- the first token of a type's name
abbrev pub type_place : Option Span → FullName → Place
type_place None n = n.first.span.start
type_place (Some dot) n = dot.start

abbrev pub reference_of : TypeName → TypeReference
reference_of t = Spelled (type_place t.dot t.name) (spelled t.dot t.name)

abbrev pub kind_of : FieldType → FieldKind
kind_of (field_type.Scalar s span) = Scalar s
kind_of (field_type.Named t) = Named (reference_of t)

abbrev pub described : Declarator → FieldLabel → FieldKind → Option ℕ → Bool → FieldDesc
described d given_label kind oneof is_optional = record {
  name = d.name.text;
  place = d.name.span.start;
  number = d.number.value;
  label = given_label;
  field_type = kind;
  oneof_index = oneof;
  json_name = json_name_by (bracketed d.options) d.name.text;
  proto3_optional = is_optional;
  options = options_of element.Field (bracketed d.options);
}

abbrev pub label_of : Option Label → FieldLabel
label_of (Some (label.Repeated s)) = Repeated
label_of l = Optional

abbrev pub is_optional : Option Label → Bool
is_optional (Some (label.Optional s)) = true
is_optional l = false

-- a field, where the next oneof that an `optional` field makes has the position `next`
abbrev pub field_at : ℕ → Field → FieldDesc
field_at next f = described f.declarator (label_of f.label) (kind_of f.field_type)
    (cond (is_optional f.label) (Some next) None) (is_optional f.label)

-- the full name, behind a leading dot, of what stands in the scope
abbrev pub inner : List ℕ → List ℕ → List ℕ
inner scope name = scope ++ 46 ∷ name

-- a map field of the message with this full name
abbrev pub map_described : List ℕ → MapField → FieldDesc
map_described full m = described m.declarator Repeated
    (Named (Resolved type_kind.Message (inner full (entry_name_of m.declarator.name.text)))) None false

-- a member of the oneof at this position
abbrev pub member_at : ℕ → OneofField → FieldDesc
member_at number f = described f.declarator Optional (kind_of f.field_type) (Some number) false

-- how many oneofs of the source there are
abbrev pub real_count : List MessageItem → ℕ
real_count is = length (flat_map message_oneof is)

-- the fields of statements, in their order, where the next oneof of the source has the position `real`, and the next
-- that is made `made`
abbrev pub fields_from : (full : List ℕ) → (real made : ℕ) → List MessageItem → List FieldDesc
fields_from full real made [] = []
fields_from full real made (message_item.Field f ∷ is) =
    field_at made f ∷ fields_from full real (made + cond (is_optional f.label) 1 0) is
fields_from full real made (message_item.Map m ∷ is) = map_described full m ∷ fields_from full real made is
fields_from full real made (message_item.Oneof o ∷ is) =
    map (member_at real) (flat_map oneof_field o.items) ++ fields_from full (real + 1) made is
fields_from full real made (i ∷ is) = fields_from full real made is
