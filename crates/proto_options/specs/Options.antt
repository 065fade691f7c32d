-- The settings of each element, of which the first of an option counts, and what a constant is as a value.
use Rattle.std.specs.Prelude.{ℕ, Bool, false, List, [], ◌∷◌, Option, Some, None, bytes_eq, cond}
use Rattle.std.specs.Option.{option_map, option_and_then, unwrap_or}
use Rattle.proto_tree.specs.declared.constant.Constant.{Constant}
use Rattle.proto_tree.specs.declared.constant.Constant.TheVariants as constant
use Rattle.proto_tree.specs.declared.enumeration.EnumItem.{EnumItem}
use Rattle.proto_tree.specs.declared.enumeration.EnumItem.TheVariants as enum_item
use Rattle.proto_tree.specs.declared.file.Statement.{Statement}
use Rattle.proto_tree.specs.declared.file.Statement.TheVariants as statement
use Rattle.proto_tree.specs.declared.message.MessageItem.{MessageItem}
use Rattle.proto_tree.specs.declared.message.MessageItem as message_item
use Rattle.proto_tree.specs.declared.name.FullName.{FullName}
use Rattle.proto_tree.specs.declared.oneof.OneofItem.{OneofItem}
use Rattle.proto_tree.specs.declared.oneof.OneofItem.TheVariants as oneof_item
use Rattle.proto_tree.specs.declared.option.Options.{Options}
use Rattle.proto_tree.specs.declared.option.Setting.{Setting}
use Rattle.proto_tree.specs.declared.service.RpcItem.{RpcItem}
use Rattle.proto_tree.specs.declared.service.RpcItem.TheVariants as rpc_item
use Rattle.proto_tree.specs.declared.service.ServiceItem.{ServiceItem}
use Rattle.proto_tree.specs.declared.service.ServiceItem.TheVariants as service_item
use Rattle.proto_desc.specs.declared.options.OptionValue.{OptionValue}
use Rattle.proto_desc.specs.declared.options.OptionValue.TheVariants.{Text, Number}
use Rattle.proto_desc.specs.declared.rules.ValueKind.{ValueKind}
use Rattle.proto_desc.specs.declared.rules.ValueKind.TheVariants as kind
use Rattle.proto_desc.specs.Rules.{choice_number}
use Rattle.proto_tree.specs.Lists.{separated}
use Rattle.proto_tree.specs.Text.{joined, simple_name}

-- the settings of a field or an enum value
abbrev pub bracketed : Option Options → List Setting
bracketed None = []
bracketed (Some options) = separated options.settings

-- the settings that statements make
abbrev pub file_setting : Statement → List Setting
file_setting (statement.Option o) = o.setting ∷ []
file_setting s = []

abbrev pub message_setting : MessageItem → List Setting
message_setting (message_item.Option o) = o.setting ∷ []
message_setting i = []

abbrev pub oneof_setting : OneofItem → List Setting
oneof_setting (oneof_item.Option o) = o.setting ∷ []
oneof_setting i = []

abbrev pub enum_setting : EnumItem → List Setting
enum_setting (enum_item.Option o) = o.setting ∷ []
enum_setting i = []

abbrev pub service_setting : ServiceItem → List Setting
service_setting (service_item.Option o) = o.setting ∷ []
service_setting i = []

abbrev pub rpc_setting : RpcItem → List Setting
rpc_setting (rpc_item.Option o) = o.setting ∷ []
rpc_setting i = []

-- whether a setting is of the option of this word; a name with dots is of none
abbrev pub is_setting : List ℕ → Setting → Bool
is_setting word s = unwrap_or (option_map (λ name. bytes_eq name word) (simple_name s.name.rest s.name.first)) false

abbrev pub first_setting : List ℕ → List Setting → Option Setting
first_setting word [] = None
first_setting word (s ∷ ss) = cond (is_setting word s) (Some s) (first_setting word ss)

-- the number that a name stands for as a value of this kind
abbrev pub number_of : ValueKind → FullName → Option ℕ
number_of kind n = option_and_then (choice_number kind) (simple_name n.rest n.first)

-- a constant as a value of this kind
abbrev pub value_of : ValueKind → Constant → Option OptionValue
value_of kind.Text (constant.String s) = Some (Text (joined s))
value_of k (constant.String s) = None
value_of k (constant.Name n) = option_map Number (number_of k n)
value_of k (constant.Number n) = None
