-- Words of private contracts: the rules of a file and of its elements in parts, each what one function looks at.
use Rattle.std.specs.Prelude.{ℕ, Bool, true, false, List, [], Option, None}
use Rattle.proto_base.specs.Sets.{◌∪◌, Each}
use Rattle.proto_base.specs.declared.spot.Spot.{Spot}
use Rattle.proto_tree.specs.declared.constant.Constant.{Constant}
use Rattle.proto_tree.specs.declared.constant.Constant.TheVariants as constant
use Rattle.proto_tree.specs.declared.enumeration.EnumItem.{EnumItem}
use Rattle.proto_tree.specs.declared.enumeration.EnumItem.TheVariants as enum_item
use Rattle.proto_tree.specs.declared.file.Statement.{Statement}
use Rattle.proto_tree.specs.declared.message.MessageItem.{MessageItem}
use Rattle.proto_tree.specs.declared.name.NamePart.{NamePart}
use Rattle.proto_tree.specs.declared.oneof.OneofField.{OneofField}
use Rattle.proto_tree.specs.declared.oneof.OneofItem.{OneofItem}
use Rattle.proto_tree.specs.declared.oneof.OneofItem.TheVariants as oneof_item
use Rattle.proto_tree.specs.declared.option.Setting.{Setting}
use Rattle.proto_desc.specs.DeclaredNames.{Declared}
use Rattle.proto_desc.specs.declared.rules.ValueKind.{ValueKind}
use Rattle.proto_options.specs.Options.{number_of}
use Rattle.proto_options.specs.Statements.{file_message, file_enum, file_service, message_oneof, message_enum}
use Rattle.proto_checks.specs.Elements.{OneofBreaks, EnumBreaks, MessageBreaks, ServiceBreaks}
use Rattle.proto_checks.specs.Marks.{Marked}
use Rattle.proto_checks.specs.Options.{IsWronglyPacked, IsWronglyTyped, FieldOptionsBreak, optioned_in_oneof, optioned_fields}

-- the number that a constant stands for, if it is a name
abbrev pub choice_of_value : ValueKind → Constant → Option ℕ
choice_of_value k (constant.Name n) = number_of k n
choice_of_value k c = None

-- what is wrong with a setting on a field alone
abbrev pub IsWrongOnField : Bool → Bool → Setting → Spot → Type 0
IsWrongOnField can_be_packed is_wide_integer s = IsWronglyPacked can_be_packed s ∪ IsWronglyTyped is_wide_integer s

abbrev pub MemberBreaks : OneofField → Spot → Type 0
MemberBreaks f = FieldOptionsBreak (optioned_in_oneof f)

abbrev pub is_oneof_member : OneofItem → Bool
is_oneof_member (oneof_item.Field f) = true
is_oneof_member i = false

abbrev pub is_value : EnumItem → Bool
is_value (enum_item.Value v) = true
is_value i = false

-- what a statement of a message breaks by itself, unless it is a message or an option
abbrev pub ItemBreaks : MessageItem → Spot → Type 0
ItemBreaks i = Each (optioned_fields i) FieldOptionsBreak ∪ Each (message_oneof i) OneofBreaks ∪ Each
    (message_enum i) EnumBreaks

-- the name that an element declares, in whichever scope, and where it stands
abbrev pub name_mark : {A : Type 0} → (List ℕ → A → Declared) → A → Marked
name_mark declared a = record { text = (declared [] a).name; place = (declared [] a).place }

-- a part of a name
abbrev pub part_name : NamePart → List ℕ
part_name part = part.name.text

-- what a statement of a file breaks
abbrev pub StatementBreaks : Statement → Spot → Type 0
StatementBreaks s = Each (file_message s) MessageBreaks ∪ Each (file_enum s) EnumBreaks ∪ Each
    (file_service s) ServiceBreaks
