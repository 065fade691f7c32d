-- Messages and the entries that map fields make.
use Rattle.std.specs.Prelude.{ℕ, true, false, List, [], ◌∷◌, ◌++◌, map, flat_map, None, codes}
use Rattle.proto_base.specs.declared.place.Place.{Place}
use Rattle.proto_tree.specs.Name.{Identifier}
use Rattle.proto_tree.specs.declared.map_field.MapField.{MapField}
use Rattle.proto_tree.specs.declared.message.Message.{Message}
use Rattle.proto_tree.specs.declared.message.MessageItem.{MessageItem, Row_of-MessageItem, end_of-MessageItem, more_of-MessageItem, end_of-Message, more_of-Message, items-the_row-MessageItem}
use Rattle.proto_tree.specs.declared.message.MessageItem as message_item
use Rattle.proto_desc.specs.declared.field.FieldDesc.{FieldDesc}
use Rattle.proto_desc.specs.declared.field.FieldKind.{FieldKind}
use Rattle.proto_desc.specs.declared.field.FieldKind.TheVariants.{Scalar}
use Rattle.proto_desc.specs.declared.field.FieldLabel.TheVariants.{Optional}
use Rattle.proto_desc.specs.declared.message.MessageDesc.{MessageDesc}
use Rattle.proto_desc.specs.declared.oneof.OneofDesc.{OneofDesc}
use Rattle.proto_desc.specs.declared.message.MessageDesc.TheViews.{roll-MessageDesc}
use Rattle.proto_desc.specs.declared.rules.Element.TheVariants as element
use Rattle.proto_lower.specs.Names.{entry_name_of}
use Rattle.proto_lower.specs.Enums.{lowered_enum}
use Rattle.proto_lower.specs.Fields.{inner, kind_of, fields_from, real_count}
use Rattle.proto_tree.specs.KeyTypes.{scalar_of_key}
use Rattle.proto_lower.specs.Oneofs.{real_oneofs, names_of_fields, with_made}
use Rattle.proto_options.specs.Options.{message_setting}
use Rattle.proto_lower.specs.Options.{options_of}
use Rattle.proto_lower.specs.Reserveds.{message_range}
use Rattle.proto_options.specs.Statements.{message_enum, message_reserved, ranges_in, names_in}
use Rattle.proto_tree.specs.Text.{joined}

-- `key` or `value` of an entry
abbrev pub entry_field : List ℕ → Place → ℕ → FieldKind → FieldDesc
entry_field text at n kind = record {
  name = text;
  place = at;
  number = n;
  label = Optional;
  field_type = kind;
  oneof_index = None;
  json_name = text;
  proto3_optional = false;
  options = [];
}

-- the fields of a map field's entry
abbrev pub entry_fields : MapField → List FieldDesc
entry_fields m = entry_field (codes "key") m.declarator.name.span.start 1 (Scalar (scalar_of_key m.map_type.key))
    ∷ entry_field (codes "value") m.declarator.name.span.start 2 (kind_of m.map_type.value) ∷ []

-- the entry of a map field, at the field's name
abbrev pub entry_of : MapField → MessageDesc
entry_of m = roll-MessageDesc (record {
  name = entry_name_of m.declarator.name.text;
  place = m.declarator.name.span.start;
  fields = entry_fields m;
  nested = [];
  enums = [];
  oneofs = [];
  reserved_ranges = [];
  reserved_names = [];
  options = [];
  is_map_entry = true;
})

-- the fields of the message with this full name
abbrev pub all_fields : List ℕ → List MessageItem → List FieldDesc
all_fields full is = fields_from full 0 (real_count is) is

-- the oneofs of the message with this full name: those of the source, and then those that its fields make
abbrev pub all_oneofs : List ℕ → List MessageItem → List OneofDesc
all_oneofs full is = with_made (names_of_fields (all_fields full is)) (real_oneofs is) (all_fields full is)

-- the message of this full name, name and statements, with these nested messages
abbrev pub message_of : List ℕ → Identifier → List MessageItem → List MessageDesc → MessageDesc
message_of full name is inner_messages = roll-MessageDesc (record {
  name = name.text;
  place = name.span.start;
  fields = all_fields full is;
  nested = inner_messages;
  enums = map lowered_enum (flat_map message_enum is);
  oneofs = all_oneofs full is;
  reserved_ranges = map message_range (flat_map ranges_in (flat_map message_reserved is));
  reserved_names = map joined (flat_map names_in (flat_map message_reserved is));
  options = options_of element.Message (flat_map message_setting is);
  is_map_entry = false;
})

-- the nested messages that a statement of the message with this full name gives, and those that statements give
abbrev mutual
  pub nested_of : List ℕ → MessageItem → List MessageDesc
  nested_of full (message_item.Message' boxed (more_of-Message keyword name opening shape is closing last)) =
      message_of (inner full name.text) name (items-the_row-MessageItem _ is) (nested_row (inner full name.text) is)
      ∷ []
  nested_of full (message_item.Map m) = entry_of m ∷ []
  nested_of full (message_item.Field f) = []
  nested_of full (message_item.Oneof o) = []
  nested_of full (message_item.Option o) = []
  nested_of full (message_item.Enum e) = []
  nested_of full (message_item.Reserved r) = []
  nested_of full (message_item.Empty s) = []

  pub nested_row : List ℕ → {n : _} → Row_of-MessageItem n → List MessageDesc
  nested_row full end_of-MessageItem = []
  nested_row full (more_of-MessageItem i is) = nested_of full i ++ nested_row full is

-- the descriptor of a message in the scope
abbrev pub lowered_message : List ℕ → Message → MessageDesc
lowered_message scope m =
    message_of (inner scope m.name.text) m.name m.items (flat_map (nested_of (inner scope m.name.text)) m.items)
