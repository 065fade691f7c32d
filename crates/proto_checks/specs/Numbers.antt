-- The rules on the numbers of a message's fields and of an enum's values, and on what is reserved.
use Rattle.std.specs.Prelude.{◌≡◌, ◌≢◌, ℕ, ◌^◌, ◌≤◌, List, map, flat_map, Option, Some, None}
use Rattle.proto_base.specs.declared.kind.Kind.{Kind}
use Rattle.proto_base.specs.declared.kind.Kind.TheVariants as kind
use Rattle.proto_tree.specs.declared.enumeration.EnumItem.{EnumItem}
use Rattle.proto_tree.specs.declared.message.MessageItem.{MessageItem}
use Rattle.proto_tree.specs.declared.option.Setting.{Setting}
use Rattle.proto_tree.specs.declared.reserved.Range.{Range}
use Rattle.proto_desc.specs.declared.options.OptionValue.TheVariants.{Number}
use Rattle.proto_desc.specs.Rules.{allow_alias}
use Rattle.proto_desc.specs.declared.rules.ValueKind.TheVariants as value_kind
use Rattle.proto_options.specs.Options.{enum_setting, first_setting, value_of}
use Rattle.proto_options.specs.Statements.{enum_reserved, greatest_field_number, message_reserved, ranges_in}
use Rattle.proto_checks.specs.Gathered.{bounds_of, enum_reserved_names, field_numbers, greatest_value, least_value, literal, marked_range, message_reserved_names, signed_number, value_numbers}
use Rattle.proto_base.specs.Least.{spot}
use Rattle.proto_checks.specs.Marks.{NumberTwice, TextTwice, Outside, ReservedOverlap, ReservedBackwards, ReservedNumberUsed}
use Rattle.proto_base.specs.Sets.{◌∪◌, StandsAt, Each, Where}
use Rattle.proto_checks.specs.declared.marks.MarkedNumber.{MarkedNumber}
use Rattle.proto_checks.specs.declared.marks.MarkedRange.{MarkedRange}
use Rattle.proto_base.specs.declared.spot.Spot.{Spot}

-- reserved ranges, beside the numbers in use
abbrev pub RangesBreak : List MarkedRange → List MarkedNumber → Spot → Type 0
RangesBreak ranges used = ReservedNumberUsed ranges used ∪ ReservedOverlap ranges ∪ ReservedBackwards ranges

-- 1 to 536,870,911, but for 19,000 to 19,999
abbrev pub IsFieldNumber : ℕ → Type 0
IsFieldNumber n = (1 ≤ n) × (n ≤ greatest_field_number) × ((19000 ≤ n) → (n ≤ 19999) → ⊥)

abbrev pub IsNoFieldNumber : MarkedNumber → Spot → Type 0
IsNoFieldNumber n = Where (IsFieldNumber n.number → ⊥) (spot n.place kind.FieldNumberRange)

-- the numbers of a message's fields among themselves
abbrev pub OwnFieldNumbersBreak : List MarkedNumber → Spot → Type 0
OwnFieldNumbersBreak ns = Each ns IsNoFieldNumber ∪ NumberTwice kind.FieldNumberTwice ns

-- what reserved ranges break, beside the numbers in use: a bound lies outside these, of which `max` is the greatest,
-- or a range is turned round, overlaps another or has a number in use
abbrev pub ReservedRangesBreak : {N : Type 0} → (N → MarkedNumber) → (least greatest : ℕ) → Kind → List (Range N)
    → List MarkedNumber → Spot → Type 0
ReservedRangesBreak mark least greatest what listed used =
    Outside least greatest what (map mark (flat_map bounds_of listed))
    ∪ RangesBreak (map (marked_range mark greatest) listed) used

-- the ranges that a message reserves, beside the numbers of its fields
abbrev pub MessageRangesBreak : List MessageItem → List MarkedNumber → Spot → Type 0
MessageRangesBreak items ns = ReservedRangesBreak literal 1 greatest_field_number kind.FieldNumberRange
    (flat_map ranges_in (flat_map message_reserved items)) ns

-- the statements of one message
abbrev pub FieldNumbersBreak : List MessageItem → Spot → Type 0
FieldNumbersBreak items = OwnFieldNumbersBreak (field_numbers items) ∪ MessageRangesBreak items (field_numbers items)
    ∪ TextTwice kind.ReservedNameTwice (message_reserved_names items)

-- `allow_alias = true`, where the first setting counts
abbrev pub IsAliasing : Option Setting → Type 0
IsAliasing None = ⊥
IsAliasing (Some s) = value_of value_kind.Bool s.value ≡ Some (Number 1)

abbrev pub FirstNotZero : List MarkedNumber → Spot → Type 0
FirstNotZero ns x =
    (n : MarkedNumber) × StandsAt ns 0 n × (n.number ≢ 2 ^ 64) × (x ≡ spot n.place kind.EnumFirstNotZero)

-- values with one number, under this first setting of `allow_alias`
abbrev pub ValueTwice : Option Setting → List MarkedNumber → Spot → Type 0
ValueTwice alias ns x = (IsAliasing alias → ⊥) × NumberTwice kind.EnumNumberTwice ns x

-- the numbers of an enum's values among themselves
abbrev pub OwnValueNumbersBreak : List EnumItem → List MarkedNumber → Spot → Type 0
OwnValueNumbersBreak items ns = FirstNotZero ns ∪ Outside least_value greatest_value kind.EnumNumberRange ns
    ∪ ValueTwice (first_setting allow_alias (flat_map enum_setting items)) ns

-- the ranges that an enum reserves, beside the numbers of its values
abbrev pub EnumRangesBreak : List EnumItem → List MarkedNumber → Spot → Type 0
EnumRangesBreak items ns = ReservedRangesBreak signed_number least_value greatest_value kind.EnumNumberRange
    (flat_map ranges_in (flat_map enum_reserved items)) ns

-- the statements of one enum
abbrev pub EnumNumbersBreak : List EnumItem → Spot → Type 0
EnumNumbersBreak items = OwnValueNumbersBreak items (value_numbers items) ∪ EnumRangesBreak items (value_numbers items)
    ∪ TextTwice kind.ReservedNameTwice (enum_reserved_names items)
