-- Options: of each that an element may have the first setting counts, and a value of another kind sets nothing.
use Rattle.std.specs.Prelude.{ℕ, List, flat_map, Option, Some, None}
use Rattle.std.specs.Option.{option_to_list, option_map}
use Rattle.proto_tree.specs.declared.constant.Constant.{Constant}
use Rattle.proto_tree.specs.declared.constant.Constant.TheVariants as constant
use Rattle.proto_tree.specs.declared.option.Setting.{Setting}
use Rattle.proto_desc.specs.declared.options.OptionDescriptor.{OptionDescriptor}
use Rattle.proto_desc.specs.declared.options.OptionValue.{OptionValue}
use Rattle.proto_desc.specs.declared.rules.Element.{Element}
use Rattle.proto_desc.specs.declared.rules.ValueKind.{ValueKind}
use Rattle.proto_desc.specs.JsonNames.{json_name_of}
use Rattle.proto_desc.specs.Rules.{Rule, json_name, rules_of}
use Rattle.proto_tree.specs.Text.{joined}
use Rattle.proto_options.specs.Options.{first_setting, value_of}

abbrev pub option_at : ℕ → Setting → OptionValue → OptionDescriptor
option_at number s value = record { number = number; value = value; place = s.name.first.span.start }

-- what the first setting of an option gives, if the option has a number among the options
abbrev pub option_by : Option ℕ → ValueKind → Option Setting → Option OptionDescriptor
option_by (Some number) kind (Some s) = option_map (option_at number s) (value_of kind s.value)
option_by number kind s = None

abbrev pub option_under : List Setting → Rule → List OptionDescriptor
option_under settings r = option_to_list (option_by r.number r.kind (first_setting r.word settings))

-- the options of an element with these settings, by rising number
unfoldable pub options_of : Element → List Setting → List OptionDescriptor
options_of element settings = flat_map (option_under settings) (rules_of element)

abbrev pub text_or : List ℕ → Constant → List ℕ
text_or other (constant.String s) = joined s
text_or other value = other

abbrev pub json_name_at : List ℕ → Option Setting → List ℕ
json_name_at name None = json_name_of name
json_name_at name (Some s) = text_or (json_name_of name) s.value

-- the JSON name of a field with these settings
unfoldable pub json_name_by : List Setting → List ℕ → List ℕ
json_name_by settings name = json_name_at name (first_setting json_name settings)
