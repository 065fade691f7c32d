-- Statements by their kinds, the statements of a method, and what `reserved` statements list.
use Rattle.std.specs.Prelude.{List, [], ◌∷◌, ℕ}
use Rattle.proto_tree.specs.declared.enumeration.Enum.{Enum}
use Rattle.proto_tree.specs.declared.enumeration.EnumItem.{EnumItem}
use Rattle.proto_tree.specs.declared.enumeration.EnumItem.TheVariants as enum_item
use Rattle.proto_tree.specs.declared.enumeration.EnumValue.{EnumValue}
use Rattle.proto_tree.specs.declared.file.Package.{Package}
use Rattle.proto_tree.specs.declared.file.Statement.{Statement}
use Rattle.proto_tree.specs.declared.file.Statement.TheVariants as statement
use Rattle.proto_tree.specs.declared.literal.NumberLiteral.{NumberLiteral}
use Rattle.proto_tree.specs.declared.literal.SignedNumber.{SignedNumber}
use Rattle.proto_tree.specs.declared.literal.StringValue.{StringValue}
use Rattle.proto_tree.specs.declared.message.Message.{Message}
use Rattle.proto_tree.specs.declared.message.MessageItem.{MessageItem}
use Rattle.proto_tree.specs.declared.message.MessageItem as message_item
use Rattle.proto_tree.specs.declared.oneof.Oneof.{Oneof}
use Rattle.proto_tree.specs.declared.oneof.OneofField.{OneofField}
use Rattle.proto_tree.specs.declared.oneof.OneofItem.{OneofItem}
use Rattle.proto_tree.specs.declared.oneof.OneofItem.TheVariants as oneof_item
use Rattle.proto_tree.specs.declared.reserved.Range.{Range}
use Rattle.proto_tree.specs.declared.reserved.ReservedItems.{ReservedItems}
use Rattle.proto_tree.specs.declared.reserved.ReservedItems.TheVariants as reserved_items
use Rattle.proto_tree.specs.declared.service.Rpc.{Rpc}
use Rattle.proto_tree.specs.declared.service.RpcBody.{RpcBody}
use Rattle.proto_tree.specs.declared.service.RpcBody.TheVariants.{Semicolon, Block}
use Rattle.proto_tree.specs.declared.service.RpcItem.{RpcItem}
use Rattle.proto_tree.specs.declared.service.Service.{Service}
use Rattle.proto_tree.specs.declared.service.ServiceItem.{ServiceItem}
use Rattle.proto_tree.specs.declared.service.ServiceItem.TheVariants as service_item
use Rattle.proto_tree.specs.Lists.{separated}

-- the package, the message, the enum or the service that a statement of a file is
abbrev pub file_package : Statement → List Package
file_package (statement.Package p) = p ∷ []
file_package s = []

abbrev pub file_message : Statement → List Message
file_message (statement.Message m) = m ∷ []
file_message s = []

abbrev pub file_enum : Statement → List Enum
file_enum (statement.Enum e) = e ∷ []
file_enum s = []

abbrev pub file_service : Statement → List Service
file_service (statement.Service s) = s ∷ []
file_service s = []

-- the oneof or the enum that a statement of a message is
abbrev pub message_oneof : MessageItem → List Oneof
message_oneof (message_item.Oneof o) = o ∷ []
message_oneof i = []

abbrev pub message_enum : MessageItem → List Enum
message_enum (message_item.Enum e) = e ∷ []
message_enum i = []

-- the member of a oneof, the value of an enum or the method of a service that a statement there is
abbrev pub oneof_field : OneofItem → List OneofField
oneof_field (oneof_item.Field f) = f ∷ []
oneof_field i = []

abbrev pub enum_value : EnumItem → List EnumValue
enum_value (enum_item.Value v) = v ∷ []
enum_value i = []

abbrev pub service_rpc : ServiceItem → List Rpc
service_rpc (service_item.Rpc r) = r ∷ []
service_rpc i = []

-- the statements of a method; one that ends with a semicolon has none
abbrev pub rpc_items : RpcBody → List RpcItem
rpc_items (Semicolon s) = []
rpc_items (Block b) = b.items

-- what a statement of a message or of an enum reserves
abbrev pub message_reserved : MessageItem → List (ReservedItems NumberLiteral)
message_reserved (message_item.Reserved r) = r.items ∷ []
message_reserved i = []

abbrev pub enum_reserved : EnumItem → List (ReservedItems SignedNumber)
enum_reserved (enum_item.Reserved r) = r.items ∷ []
enum_reserved i = []

abbrev pub ranges_in : {N : Type 0} → ReservedItems N → List (Range N)
ranges_in (reserved_items.Ranges rs) = separated rs
ranges_in (reserved_items.Names ns) = []

abbrev pub names_in : {N : Type 0} → ReservedItems N → List StringValue
names_in (reserved_items.Ranges rs) = []
names_in (reserved_items.Names ns) = separated ns

-- the greatest number of a field, and that of an enum's value
abbrev pub greatest_field_number : ℕ
greatest_field_number = 536870911

abbrev pub greatest_value_number : ℕ
greatest_value_number = 2147483647
