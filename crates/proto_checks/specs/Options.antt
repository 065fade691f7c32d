-- Rules on the options of an element.
use Rattle.std.specs.Prelude.{◌≡◌, ◌≢◌, ℕ, Bool, true, false, ◌&&◌, List, [], ◌∷◌, map, flat_map, Option, Some, None, Contains}
use Rattle.proto_base.specs.declared.kind.Kind.TheVariants as kind
use Rattle.proto_base.specs.declared.place.Place.{Place}
use Rattle.proto_base.specs.declared.place.Span.{Span}
use Rattle.proto_tree.specs.declared.constant.Constant.{Constant}
use Rattle.proto_tree.specs.declared.constant.Constant.TheVariants as constant
use Rattle.proto_tree.specs.declared.constant.Sign.{Sign}
use Rattle.proto_tree.specs.declared.constant.Sign.TheVariants as sign
use Rattle.proto_tree.specs.declared.field.Declarator.{Declarator}
use Rattle.proto_tree.specs.declared.field.Field.{Field}
use Rattle.proto_tree.specs.declared.field.FieldType.{FieldType}
use Rattle.proto_tree.specs.declared.field.FieldType.TheVariants.{Scalar}
use Rattle.proto_tree.specs.declared.field.Label.{Label}
use Rattle.proto_tree.specs.declared.field.Label.TheVariants as label
use Rattle.proto_tree.specs.declared.message.MessageItem.{MessageItem}
use Rattle.proto_tree.specs.declared.message.MessageItem as message_item
use Rattle.proto_tree.specs.declared.oneof.OneofField.{OneofField}
use Rattle.proto_tree.specs.declared.option.Setting.{Setting}
use Rattle.proto_base.specs.declared.scalar_type.ScalarType.TheVariants as scalar
use Rattle.proto_desc.specs.declared.options.OptionValue.TheVariants.{Number}
use Rattle.proto_desc.specs.declared.rules.Element.{Element}
use Rattle.proto_desc.specs.declared.rules.Element.TheVariants as element
use Rattle.proto_desc.specs.declared.rules.ValueKind.TheVariants as value_kind
use Rattle.proto_options.specs.Options.{bracketed, is_setting, value_of}
use Rattle.proto_options.specs.Statements.{oneof_field}
use Rattle.proto_tree.specs.Text.{dotted}
use Rattle.proto_desc.specs.Rules.{Rule, rules_of}
use Rattle.proto_desc.specs.Rules as option
use Rattle.proto_base.specs.Least.{spot}
use Rattle.proto_base.specs.Sets.{◌∪◌, Each, Later, Where}
use Rattle.proto_base.specs.declared.spot.Spot.{Spot}

-- the first token of an option's name, and that of its value
abbrev pub name_place : Setting → Place
name_place s = s.name.first.span.start

abbrev pub number_place : Option Sign → Span → Place
number_place None digits = digits.start
number_place (Some (sign.Minus s)) digits = s.start
number_place (Some (sign.Plus s)) digits = s.start

abbrev pub value_place : Constant → Place
value_place (constant.Name n) = n.first.span.start
value_place (constant.Number n) = number_place n.sign n.number.span
value_place (constant.String s) = s.first.span.start

-- no option of the element has this name
abbrev pub IsUnknown : Element → Setting → Type 0
IsUnknown e s = (r : Rule) → Contains (rules_of e) r → is_setting r.word s ≡ false

-- the option of this name takes other values
abbrev pub IsMistaken : Element → Setting → Type 0
IsMistaken e s =
    (r : Rule) × Contains (rules_of e) r × (is_setting r.word s ≡ true) × (value_of r.kind s.value ≡ None)

abbrev pub SettingBreaks : Element → Setting → Spot → Type 0
SettingBreaks e s = Where (IsUnknown e s) (spot (name_place s) kind.UnknownOption)
    ∪ Where (IsMistaken e s) (spot (value_place s.value) kind.BadOptionValue)

-- an option that the element has already
abbrev pub OptionTwice : List Setting → Spot → Type 0
OptionTwice ss = Later ss (λ s t. dotted s.name ≡ dotted t.name) (λ t. spot (name_place t) kind.OptionTwice)

-- the settings of one element
abbrev pub SettingsBreak : Element → List Setting → Spot → Type 0
SettingsBreak e ss = Each ss (SettingBreaks e) ∪ OptionTwice ss

-- a field, with what its options depend on
pub record OptionedField : Type 0 where
  pub declarator : Declarator
  pub can_be_packed : Bool
  pub is_wide_integer : Bool

-- strings and bytes are never packed; whether the type of a name is packed is known where names are resolved
abbrev pub is_packed_type : FieldType → Bool
is_packed_type (Scalar scalar.String span) = false
is_packed_type (Scalar scalar.Bytes span) = false
is_packed_type t = true

-- the integers of 64 bits
abbrev pub is_wide : FieldType → Bool
is_wide (Scalar scalar.Int64 span) = true
is_wide (Scalar scalar.Uint64 span) = true
is_wide (Scalar scalar.Sint64 span) = true
is_wide (Scalar scalar.Fixed64 span) = true
is_wide (Scalar scalar.Sfixed64 span) = true
is_wide t = false

abbrev pub is_repeated : Option Label → Bool
is_repeated (Some (label.Repeated s)) = true
is_repeated l = false

abbrev pub optioned : Declarator → Bool → Bool → OptionedField
optioned d can_be_packed is_wide_integer =
    record { declarator = d; can_be_packed = can_be_packed; is_wide_integer = is_wide_integer }

abbrev pub optioned_plain : Field → OptionedField
optioned_plain f = optioned f.declarator (is_repeated f.label && is_packed_type f.field_type) (is_wide f.field_type)

abbrev pub optioned_in_oneof : OneofField → OptionedField
optioned_in_oneof f = optioned f.declarator false (is_wide f.field_type)

abbrev pub optioned_fields : MessageItem → List OptionedField
optioned_fields (message_item.Field f) = optioned_plain f ∷ []
optioned_fields (message_item.Map m) = optioned m.declarator false false ∷ []
optioned_fields (message_item.Oneof o) = map optioned_in_oneof (flat_map oneof_field o.items)
optioned_fields i = []

-- `packed = true` on a field that is not packed
abbrev pub IsWronglyPacked : Bool → Setting → Spot → Type 0
IsWronglyPacked can_be_packed s x =
    (can_be_packed ≡ false) × (is_setting option.packed s ≡ true) × (value_of value_kind.Bool s.value ≡ Some (Number 1))
    × (x ≡ spot (name_place s) kind.PackedOnWrongKind)

abbrev pub IsOtherType : Constant → Type 0
IsOtherType value = (n : ℕ) × (n ≢ 0) × (value_of value_kind.JsType value ≡ Some (Number n))

-- `jstype` other than JS_NORMAL, which is 0, on another type than an integer of 64 bits
abbrev pub IsWronglyTyped : Bool → Setting → Spot → Type 0
IsWronglyTyped is_wide_integer s x =
    (is_wide_integer ≡ false) × (is_setting option.jstype s ≡ true)
    × IsOtherType s.value × (x ≡ spot (name_place s) kind.JstypeOnWrongKind)

abbrev pub FieldOptionsBreak : OptionedField → Spot → Type 0
FieldOptionsBreak f =
    Each (bracketed f.declarator.options) (IsWronglyPacked f.can_be_packed)
    ∪ Each (bracketed f.declarator.options) (IsWronglyTyped f.is_wide_integer)
    ∪ SettingsBreak element.Field (bracketed f.declarator.options)
