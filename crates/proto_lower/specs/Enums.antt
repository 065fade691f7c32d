-- Enums.
use Rattle.std.specs.Prelude.{map, flat_map}
use Rattle.proto_tree.specs.declared.enumeration.Enum.{Enum}
use Rattle.proto_tree.specs.declared.enumeration.EnumValue.{EnumValue}
use Rattle.proto_desc.specs.declared.enumeration.EnumDesc.{EnumDesc}
use Rattle.proto_desc.specs.declared.enumeration.ValueDesc.{ValueDesc}
use Rattle.proto_desc.specs.declared.rules.Element.TheVariants as element
use Rattle.proto_options.specs.Options.{bracketed, enum_setting}
use Rattle.proto_options.specs.Statements.{enum_value, enum_reserved, ranges_in, names_in}
use Rattle.proto_tree.specs.Text.{joined}
use Rattle.proto_lower.specs.Options.{options_of}
use Rattle.proto_lower.specs.Reserveds.{number_of_literal, enum_range}

abbrev pub value_desc : EnumValue → ValueDesc
value_desc v = record {
  name = v.name.text;
  place = v.name.span.start;
  number = number_of_literal v.number;
  options =
      options_of element.EnumValue (bracketed v.options);
}

abbrev pub lowered_enum : Enum → EnumDesc
lowered_enum e = record {
  name = e.name.text;
  place = e.name.span.start;
  values = map value_desc (flat_map enum_value e.items);
  options = options_of element.Enum (flat_map enum_setting e.items);
  reserved_ranges = map enum_range (flat_map ranges_in (flat_map enum_reserved e.items));
  reserved_names = map joined (flat_map names_in (flat_map enum_reserved e.items));
}
