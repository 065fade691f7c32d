-- The numbers, ranges and names of a message's or an enum's statements, with their places.
--
-- Numbers of an enum may be negative. They are counted here from -2 ^ 64 on, which is 0, so that their order is that of
-- numbers without a sign.
use Rattle.std.specs.Prelude.{ℕ, ◌+◌, ◌-◌, ◌^◌, List, [], ◌∷◌, map, flat_map, Option, Some, None}
use Rattle.std.specs.Option.{option_map_or, option_to_list}
use Rattle.proto_base.specs.declared.place.Span.{Span}
use Rattle.proto_tree.specs.declared.enumeration.EnumItem.{EnumItem}
use Rattle.proto_tree.specs.declared.literal.NumberLiteral.{NumberLiteral}
use Rattle.proto_tree.specs.declared.literal.SignedNumber.{SignedNumber}
use Rattle.proto_tree.specs.declared.literal.StringValue.{StringValue}
use Rattle.proto_tree.specs.declared.message.MessageItem.{MessageItem}
use Rattle.proto_tree.specs.declared.reserved.Range.{Range}
use Rattle.proto_tree.specs.declared.reserved.RangeEnd.{RangeEnd}
use Rattle.proto_options.specs.Statements.{enum_value, message_reserved, enum_reserved, names_in, greatest_value_number}
use Rattle.proto_tree.specs.Ranges.{last_number, number_of_bound}
use Rattle.proto_tree.specs.Text.{joined}
use Rattle.proto_checks.specs.Marks.{Marked}
use Rattle.proto_checks.specs.Options.{OptionedField, optioned_fields}
use Rattle.proto_checks.specs.declared.marks.MarkedNumber.{MarkedNumber}
use Rattle.proto_checks.specs.declared.marks.MarkedRange.{MarkedRange}

abbrev pub literal : NumberLiteral → MarkedNumber
literal n = record { number = n.value; place = n.span.start }

-- the place of a number with a minus is the minus
abbrev pub with_sign : Option Span → NumberLiteral → MarkedNumber
with_sign None n = record { number = 2 ^ 64 + n.value; place = n.span.start }
with_sign (Some minus) n = record { number = 2 ^ 64 - n.value; place = minus.start }

abbrev pub signed_number : SignedNumber → MarkedNumber
signed_number n = with_sign n.minus n.number

-- the least and the greatest number of an enum's value
abbrev pub least_value : ℕ
least_value = 2 ^ 64 - 2147483648

abbrev pub greatest_value : ℕ
greatest_value = 2 ^ 64 + greatest_value_number

-- the numbers of the fields of a message, map fields and members of oneofs among them
abbrev pub field_number : OptionedField → MarkedNumber
field_number f = literal f.declarator.number

abbrev pub field_numbers : List MessageItem → List MarkedNumber
field_numbers is = map field_number (flat_map optioned_fields is)

abbrev pub value_numbers : List EnumItem → List MarkedNumber
value_numbers is = map (λ v. signed_number v.number) (flat_map enum_value is)

-- a range by its bounds
abbrev pub marked_range : {N : Type 0} → (mark : N → MarkedNumber) → (greatest : ℕ) → Range N → MarkedRange
marked_range mark greatest r = record {
  start = (mark r.start).number;
  end = option_map_or (λ n. (mark n).number) (last_number r.start r.end) greatest;
  place = (mark r.start).place;
}

-- the number behind `to`, where there is one and it is not `max`
abbrev pub end_bound : {N : Type 0} → Option (RangeEnd N) → List N
end_bound None = []
end_bound (Some e) = option_to_list (number_of_bound e.bound)

-- the bounds of a range that are numbers; `max` is in range
abbrev pub bounds_of : {N : Type 0} → Range N → List N
bounds_of r = r.start ∷ end_bound r.end

abbrev pub reserved_name : StringValue → Marked
reserved_name s = record { text = joined s; place = s.first.span.start }

-- the names that the statements of a message and of an enum reserve
abbrev pub message_reserved_names : List MessageItem → List Marked
message_reserved_names is = map reserved_name (flat_map names_in (flat_map message_reserved is))

abbrev pub enum_reserved_names : List EnumItem → List Marked
enum_reserved_names is = map reserved_name (flat_map names_in (flat_map enum_reserved is))
