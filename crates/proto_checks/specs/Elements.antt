-- The rules of the elements of a file.
use Rattle.std.specs.Prelude.{◌≡◌, List, [], ◌∷◌, ◌++◌, flat_map}
use Rattle.proto_base.specs.declared.kind.Kind.TheVariants as kind
use Rattle.proto_tree.specs.declared.enumeration.Enum.{Enum}
use Rattle.proto_tree.specs.declared.enumeration.EnumValue.{EnumValue}
use Rattle.proto_tree.specs.declared.message.Message.{Message}
use Rattle.proto_tree.specs.declared.message.MessageItem.{MessageItem, Row_of-MessageItem, end_of-MessageItem, more_of-MessageItem, end_of-Message, more_of-Message, items-the_row-MessageItem}
use Rattle.proto_tree.specs.declared.message.MessageItem as message_item
use Rattle.proto_tree.specs.declared.oneof.Oneof.{Oneof}
use Rattle.proto_tree.specs.declared.service.Rpc.{Rpc}
use Rattle.proto_tree.specs.declared.service.Service.{Service}
use Rattle.proto_desc.specs.declared.rules.Element.TheVariants as element
use Rattle.proto_options.specs.Options.{bracketed, message_setting, oneof_setting, enum_setting, service_setting, rpc_setting}
use Rattle.proto_options.specs.Statements.{message_oneof, message_enum, oneof_field, enum_value, service_rpc, rpc_items}
use Rattle.proto_base.specs.Least.{spot}
use Rattle.proto_checks.specs.Numbers.{FieldNumbersBreak, EnumNumbersBreak}
use Rattle.proto_checks.specs.Options.{SettingsBreak, FieldOptionsBreak, optioned_fields}
use Rattle.proto_base.specs.Sets.{◌∪◌, Each, Where}
use Rattle.proto_base.specs.declared.spot.Spot.{Spot}

-- oneofs
abbrev pub IsEmptyOneof : Oneof → Spot → Type 0
IsEmptyOneof o = Where (flat_map oneof_field o.items ≡ []) (spot o.name.span.start kind.OneofEmpty)

abbrev pub OneofBreaks : Oneof → Spot → Type 0
OneofBreaks o = IsEmptyOneof o ∪ SettingsBreak element.Oneof (flat_map oneof_setting o.items)

-- enums
abbrev pub ValueBreaks : EnumValue → Spot → Type 0
ValueBreaks v = SettingsBreak element.EnumValue (bracketed v.options)

abbrev pub IsEmptyEnum : Enum → Spot → Type 0
IsEmptyEnum e = Where (flat_map enum_value e.items ≡ []) (spot e.name.span.start kind.EnumEmpty)

abbrev pub EnumBreaks : Enum → Spot → Type 0
EnumBreaks e = IsEmptyEnum e ∪ EnumNumbersBreak e.items ∪ SettingsBreak element.Enum (flat_map enum_setting e.items)
    ∪ Each (flat_map enum_value e.items) ValueBreaks

-- the fields, oneofs and enums of one message, without those of the messages within it
abbrev pub MembersBreak : List MessageItem → Spot → Type 0
MembersBreak items = Each (flat_map optioned_fields items) FieldOptionsBreak ∪ Each
    (flat_map message_oneof items) OneofBreaks
    ∪ Each (flat_map message_enum items) EnumBreaks

-- all statements of one message, without those of the messages within it
abbrev pub BodyBreaks : List MessageItem → Spot → Type 0
BodyBreaks items =
    FieldNumbersBreak items ∪ SettingsBreak element.Message (flat_map message_setting items) ∪ MembersBreak items

-- the statements of the messages that a statement holds, at each depth: one list for each message
abbrev mutual
  pub bodies_of : MessageItem → List (List MessageItem)
  bodies_of (message_item.Message' boxed (more_of-Message keyword name opening shape is closing last)) =
      items-the_row-MessageItem _ is ∷ bodies_row is
  bodies_of (message_item.Map m) = []
  bodies_of (message_item.Field f) = []
  bodies_of (message_item.Oneof o) = []
  bodies_of (message_item.Option o) = []
  bodies_of (message_item.Enum e) = []
  bodies_of (message_item.Reserved r) = []
  bodies_of (message_item.Empty s) = []

  pub bodies_row : {n : _} → Row_of-MessageItem n → List (List MessageItem)
  bodies_row end_of-MessageItem = []
  bodies_row (more_of-MessageItem i is) = bodies_of i ++ bodies_row is

-- the statements of a message and of those within it
abbrev pub bodies : List MessageItem → List (List MessageItem)
bodies items = items ∷ flat_map bodies_of items

abbrev pub MessageBreaks : Message → Spot → Type 0
MessageBreaks m = Each (bodies m.items) BodyBreaks

-- services
abbrev pub RpcBreaks : Rpc → Spot → Type 0
RpcBreaks r = SettingsBreak element.Method (flat_map rpc_setting (rpc_items r.body))

abbrev pub ServiceBreaks : Service → Spot → Type 0
ServiceBreaks s = SettingsBreak element.Service (flat_map service_setting s.items) ∪ Each
    (flat_map service_rpc s.items) RpcBreaks
