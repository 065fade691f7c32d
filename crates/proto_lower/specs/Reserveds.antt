-- Reserved ranges, and the numbers of literals with a sign.
use Rattle.std.specs.Prelude.{false}
use Rattle.std.specs.Option.{is_some, option_map_or}
use Rattle.proto_tree.specs.declared.literal.NumberLiteral.{NumberLiteral}
use Rattle.proto_tree.specs.declared.literal.SignedNumber.{SignedNumber}
use Rattle.proto_tree.specs.declared.reserved.Range.{Range}
use Rattle.proto_tree.specs.Ranges.{last_number}
use Rattle.proto_desc.specs.declared.enumeration.EnumReservedRange.{EnumReservedRange}
use Rattle.proto_desc.specs.declared.message.ReservedRange.{ReservedRange}
use Rattle.proto_desc.specs.declared.whole_number.WholeNumber.{WholeNumber}
use Rattle.proto_desc.specs.WholeNumber.{signed}
use Rattle.proto_options.specs.Statements.{greatest_field_number, greatest_value_number}

abbrev pub message_range : Range NumberLiteral → ReservedRange
message_range r = record {
  start = r.start.value;
  end = option_map_or (λ n. n.value) (last_number r.start r.end) greatest_field_number;
}

abbrev pub number_of_literal : SignedNumber → WholeNumber
number_of_literal n = signed (is_some n.minus) n.number.value

abbrev pub enum_range : Range SignedNumber → EnumReservedRange
enum_range r = record {
  start = number_of_literal r.start;
  end = option_map_or number_of_literal (last_number r.start r.end) (signed false greatest_value_number);
}
