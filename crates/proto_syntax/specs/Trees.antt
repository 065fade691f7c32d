-- The tree of the grammar that a value of the code stands for. Each element of a file shows all of its tokens.
use Rattle.std.specs.Prelude.{ℕ, zero, suc, cond, bytes_eq, List, [], ◌∷◌, codes, Option, Some, None}
use Rattle.std.specs.Str.{byte}
use Rattle.proto_tokens.specs.Token.{Lexeme, identifier, number, string_literal, punctuation}
use Rattle.proto_base.specs.declared.place.Span.{Span}
use Rattle.proto_tree.specs.KeyTypes.{scalar_of_key}
use Rattle.proto_tree.specs.Name.{Identifier}
use Rattle.proto_syntax.specs.Grammar.{Tree, Leaf, Empty, Pair, Left, Right}
use Rattle.proto_tree.specs.declared.constant.Constant.{Constant}
use Rattle.proto_tree.specs.declared.constant.Constant.TheVariants as constant
use Rattle.proto_tree.specs.declared.constant.ConstantNumber.{ConstantNumber}
use Rattle.proto_tree.specs.declared.constant.Sign.{Sign}
use Rattle.proto_tree.specs.declared.constant.Sign.TheVariants as sign
use Rattle.proto_tree.specs.declared.enumeration.Enum.{Enum}
use Rattle.proto_tree.specs.declared.enumeration.EnumItem.{EnumItem}
use Rattle.proto_tree.specs.declared.enumeration.EnumItem.TheVariants as enum_item
use Rattle.proto_tree.specs.declared.enumeration.EnumValue.{EnumValue}
use Rattle.proto_tree.specs.declared.field.Declarator.{Declarator}
use Rattle.proto_tree.specs.declared.field.Field.{Field}
use Rattle.proto_tree.specs.declared.field.FieldType.{FieldType}
use Rattle.proto_tree.specs.declared.field.FieldType.TheVariants.{Scalar, Named}
use Rattle.proto_tree.specs.declared.field.Label.{Label}
use Rattle.proto_tree.specs.declared.field.Label.TheVariants as label
use Rattle.proto_tree.specs.declared.file.FileTree.{FileTree}
use Rattle.proto_tree.specs.declared.file.Import.{Import}
use Rattle.proto_tree.specs.declared.file.Package.{Package}
use Rattle.proto_tree.specs.declared.file.Statement.{Statement}
use Rattle.proto_tree.specs.declared.file.Statement.TheVariants as statement
use Rattle.proto_tree.specs.declared.file.Syntax.{Syntax}
use Rattle.proto_tree.specs.declared.list.Next.{Next}
use Rattle.proto_tree.specs.declared.list.Separated.{Separated}
use Rattle.proto_tree.specs.declared.literal.NumberLiteral.{NumberLiteral}
use Rattle.proto_tree.specs.declared.literal.SignedNumber.{SignedNumber}
use Rattle.proto_tree.specs.declared.literal.StringLiteral.{StringLiteral}
use Rattle.proto_tree.specs.declared.literal.StringValue.{StringValue}
use Rattle.proto_tree.specs.declared.map_field.MapField.{MapField}
use Rattle.proto_tree.specs.declared.map_field.MapType.{MapType}
use Rattle.proto_tree.specs.declared.message.Message.{Message, Message-F}
use Rattle.proto_tree.specs.declared.message.MessageItem.{MessageItem, MessageItem-F, fold-MessageItem}
use Rattle.proto_tree.specs.declared.message.MessageItem.TheOpen as message_item
use Rattle.proto_tree.specs.declared.name.FullName.{FullName}
use Rattle.proto_tree.specs.declared.name.NamePart.{NamePart}
use Rattle.proto_tree.specs.declared.name.TypeName.{TypeName}
use Rattle.proto_tree.specs.declared.oneof.Oneof.{Oneof}
use Rattle.proto_tree.specs.declared.oneof.OneofField.{OneofField}
use Rattle.proto_tree.specs.declared.oneof.OneofItem.{OneofItem}
use Rattle.proto_tree.specs.declared.oneof.OneofItem.TheVariants as oneof_item
use Rattle.proto_tree.specs.declared.option.OptionStatement.{OptionStatement}
use Rattle.proto_tree.specs.declared.option.Options.{Options}
use Rattle.proto_tree.specs.declared.option.Setting.{Setting}
use Rattle.proto_tree.specs.declared.reserved.Range.{Range}
use Rattle.proto_tree.specs.declared.reserved.RangeEnd.{RangeEnd}
use Rattle.proto_tree.specs.declared.reserved.Reserved.{Reserved}
use Rattle.proto_tree.specs.declared.reserved.ReservedItems.{ReservedItems}
use Rattle.proto_tree.specs.declared.reserved.ReservedItems.TheVariants as reserved_items
use Rattle.proto_tree.specs.declared.reserved.UpperBound.{UpperBound}
use Rattle.proto_tree.specs.declared.reserved.UpperBound.TheVariants as upper_bound
use Rattle.proto_base.specs.declared.scalar_type.KeyType.{KeyType}
use Rattle.proto_base.specs.declared.scalar_type.ScalarType.{ScalarType}
use Rattle.proto_base.specs.declared.scalar_type.ScalarType.TheVariants as scalar
use Rattle.proto_tree.specs.declared.service.Rpc.{Rpc}
use Rattle.proto_tree.specs.declared.service.RpcBlock.{RpcBlock}
use Rattle.proto_tree.specs.declared.service.RpcBody.{RpcBody}
use Rattle.proto_tree.specs.declared.service.RpcBody.TheVariants as rpc_body
use Rattle.proto_tree.specs.declared.service.RpcItem.{RpcItem}
use Rattle.proto_tree.specs.declared.service.RpcItem.TheVariants as rpc_item
use Rattle.proto_tree.specs.declared.service.RpcType.{RpcType}
use Rattle.proto_tree.specs.declared.service.Service.{Service}
use Rattle.proto_tree.specs.declared.service.ServiceItem.{ServiceItem}
use Rattle.proto_tree.specs.declared.service.ServiceItem.TheVariants as service_item

-- one token
abbrev pub leaf : Lexeme → Span → Tree
leaf w s = Leaf (record { start = s.start.offset; end = s.end.offset; lexeme = w })

abbrev pub symbol_tree : ℕ → Span → Tree
symbol_tree b = leaf (punctuation b)

abbrev pub word_tree : List ℕ → Span → Tree
word_tree w = leaf (identifier w)

abbrev pub name_tree : Identifier → Tree
name_tree n = leaf (identifier n.text) n.span

abbrev pub number_tree : NumberLiteral → Tree
number_tree n = leaf (number n.value) n.span

abbrev pub string_tree : StringLiteral → Tree
string_tree s = leaf (string_literal s.value) s.span

-- what stands behind so many alternatives, and the alternative behind so many
abbrev pub past : ℕ → Tree → Tree
past zero t = t
past (suc n) t = Right (past n t)

abbrev pub alternative : ℕ → Tree → Tree
alternative n t = past n (Left t)

-- one tree behind another
infixr 30 ◌▹◌
abbrev pub ◌▹◌ : Tree → Tree → Tree
x ▹ y = Pair x y

-- the items of a repetition, before others
abbrev pub before : {A : Type 0} → (A → Tree) → List A → Tree → Tree
before f [] t = t
before f (x ∷ xs) t = Pair (f x) (before f xs t)

-- the items of a repetition
abbrev pub row : {A : Type 0} → (A → Tree) → List A → Tree
row f xs = before f xs Empty

abbrev pub optional : {A : Type 0} → (A → Tree) → Option A → Tree
optional f None = Right Empty
optional f (Some x) = Left (f x)

abbrev pub next_tree : {A : Type 0} → (A → Tree) → Next A → Tree
next_tree f n = symbol_tree (byte ",") n.comma ▹ f n.item

abbrev pub separated_tree : {A : Type 0} → (A → Tree) → Separated A → Tree
separated_tree f s = f s.first ▹ row (next_tree f) s.rest

abbrev pub str_tree : StringValue → Tree
str_tree s = string_tree s.first ▹ row string_tree s.rest

abbrev pub part_tree : NamePart → Tree
part_tree p = symbol_tree (byte ".") p.dot ▹ name_tree p.name

abbrev pub full_tree : FullName → Tree
full_tree n = name_tree n.first ▹ row part_tree n.rest

abbrev pub dotted_tree : Option Span → FullName → Tree
dotted_tree None n = Right (full_tree n)
dotted_tree (Some dot) n = Left (symbol_tree (byte ".") dot ▹ full_tree n)

abbrev pub named_tree : TypeName → Tree
named_tree n = dotted_tree n.dot n.name

-- the word of a scalar type
abbrev pub word_of_scalar : ScalarType → List ℕ
word_of_scalar scalar.Double = codes "double"
word_of_scalar scalar.Float = codes "float"
word_of_scalar scalar.Int32 = codes "int32"
word_of_scalar scalar.Int64 = codes "int64"
word_of_scalar scalar.Uint32 = codes "uint32"
word_of_scalar scalar.Uint64 = codes "uint64"
word_of_scalar scalar.Sint32 = codes "sint32"
word_of_scalar scalar.Sint64 = codes "sint64"
word_of_scalar scalar.Fixed32 = codes "fixed32"
word_of_scalar scalar.Fixed64 = codes "fixed64"
word_of_scalar scalar.Sfixed32 = codes "sfixed32"
word_of_scalar scalar.Sfixed64 = codes "sfixed64"
word_of_scalar scalar.Bool = codes "bool"
word_of_scalar scalar.String = codes "string"
word_of_scalar scalar.Bytes = codes "bytes"

-- the word of the type of a map's key
abbrev pub word_of_key : KeyType → List ℕ
word_of_key k = word_of_scalar (scalar_of_key k)

abbrev pub type_tree : FieldType → Tree
type_tree (Scalar s span) = Left (word_tree (word_of_scalar s) span)
type_tree (Named n) = Right (named_tree n)

abbrev pub signed_tree : SignedNumber → Tree
signed_tree n = optional (symbol_tree (byte "-")) n.minus ▹ number_tree n.number

abbrev pub sign_tree : Sign → Tree
sign_tree (sign.Minus s) = Left (symbol_tree (byte "-") s)
sign_tree (sign.Plus s) = Right (symbol_tree (byte "+") s)

abbrev pub constant_number_tree : ConstantNumber → Tree
constant_number_tree n = optional sign_tree n.sign ▹ number_tree n.number

abbrev pub constant_tree : Constant → Tree
constant_tree (constant.Name n) = alternative 0 (full_tree n)
constant_tree (constant.Number n) = alternative 1 (constant_number_tree n)
constant_tree (constant.String s) = past 2 (str_tree s)

abbrev pub setting_tree : Setting → Tree
setting_tree s = full_tree s.name ▹ symbol_tree (byte "=") s.equals ▹ constant_tree s.value

abbrev pub options_tree : Options → Tree
options_tree o =
    symbol_tree (byte "[") o.open_bracket ▹ separated_tree setting_tree o.settings ▹ symbol_tree
    (byte "]") o.close_bracket

abbrev pub option_tree : OptionStatement → Tree
option_tree o = word_tree (codes "option") o.keyword ▹ setting_tree o.setting ▹ symbol_tree (byte ";") o.semicolon

-- `word name { items }`
abbrev pub block_tree : List ℕ → Span → Identifier → Span → Tree → Span → Tree
block_tree word keyword name open_brace items close_brace =
    word_tree word keyword ▹ name_tree name ▹ symbol_tree (byte "{") open_brace ▹ items ▹ symbol_tree
    (byte "}") close_brace

abbrev pub streamed_tree : Option Span → TypeName → Tree
streamed_tree None n = Right (named_tree n)
streamed_tree (Some stream) n = Left (word_tree (codes "stream") stream ▹ named_tree n)

abbrev pub rpc_type_tree : RpcType → Tree
rpc_type_tree t =
    symbol_tree (byte "(") t.open_paren ▹ streamed_tree t.stream t.name ▹ symbol_tree (byte ")") t.close_paren

abbrev pub rpc_item_tree : RpcItem → Tree
rpc_item_tree (rpc_item.Option o) = Left (option_tree o)
rpc_item_tree (rpc_item.Empty s) = Right (symbol_tree (byte ";") s)

abbrev pub rpc_block_tree : RpcBlock → Tree
rpc_block_tree b =
    symbol_tree (byte "{") b.open_brace ▹ row rpc_item_tree b.items ▹ symbol_tree (byte "}") b.close_brace

abbrev pub rpc_body_tree : RpcBody → Tree
rpc_body_tree (rpc_body.Semicolon s) = Left (symbol_tree (byte ";") s)
rpc_body_tree (rpc_body.Block b) = Right (rpc_block_tree b)

abbrev pub rpc_tree : Rpc → Tree
rpc_tree r =
    word_tree (codes "rpc") r.keyword ▹ name_tree r.name ▹ rpc_type_tree r.input
    ▹ word_tree (codes "returns") r.returns ▹ rpc_type_tree r.output ▹ rpc_body_tree r.body

abbrev pub service_item_tree : ServiceItem → Tree
service_item_tree (service_item.Rpc r) = alternative 0 (rpc_tree r)
service_item_tree (service_item.Option o) = alternative 1 (option_tree o)
service_item_tree (service_item.Empty s) = past 2 (symbol_tree (byte ";") s)

abbrev pub service_tree : Service → Tree
service_tree s =
    block_tree (codes "service") s.keyword s.name s.open_brace (row service_item_tree s.items) s.close_brace

abbrev pub bound_tree : {N : Type 0} → (N → Tree) → UpperBound N → Tree
bound_tree f (upper_bound.Number n) = Left (f n)
bound_tree f (upper_bound.Max s) = Right (word_tree (codes "max") s)

abbrev pub range_end_tree : {N : Type 0} → (N → Tree) → RangeEnd N → Tree
range_end_tree f e = word_tree (codes "to") e.to ▹ bound_tree f e.bound

abbrev pub range_tree : {N : Type 0} → (N → Tree) → Range N → Tree
range_tree f r = f r.start ▹ optional (range_end_tree f) r.end

abbrev pub reserved_items_tree : {N : Type 0} → (N → Tree) → ReservedItems N → Tree
reserved_items_tree f (reserved_items.Ranges s) = Left (separated_tree (range_tree f) s)
reserved_items_tree f (reserved_items.Names s) = Right (separated_tree str_tree s)

abbrev pub reserved_tree : {N : Type 0} → (N → Tree) → Reserved N → Tree
reserved_tree f r =
    word_tree (codes "reserved") r.keyword ▹ reserved_items_tree f r.items ▹ symbol_tree (byte ";") r.semicolon

abbrev pub value_tree : EnumValue → Tree
value_tree v =
    name_tree v.name ▹ symbol_tree (byte "=") v.equals ▹ signed_tree v.number
    ▹ optional options_tree v.options ▹ symbol_tree (byte ";") v.semicolon

abbrev pub enum_item_tree : EnumItem → Tree
enum_item_tree (enum_item.Option o) = alternative 0 (option_tree o)
enum_item_tree (enum_item.Reserved r) = alternative 1 (reserved_tree signed_tree r)
enum_item_tree (enum_item.Empty s) = alternative 2 (symbol_tree (byte ";") s)
enum_item_tree (enum_item.Value v) = past 3 (value_tree v)

abbrev pub enum_tree : Enum → Tree
enum_tree e = block_tree (codes "enum") e.keyword e.name e.open_brace (row enum_item_tree e.items) e.close_brace

abbrev pub declarator_tree : Declarator → Tree
declarator_tree d =
    name_tree d.name ▹ symbol_tree (byte "=") d.equals ▹ number_tree d.number
    ▹ optional options_tree d.options ▹ symbol_tree (byte ";") d.semicolon

abbrev pub member_tree : OneofField → Tree
member_tree m = type_tree m.field_type ▹ declarator_tree m.declarator

abbrev pub oneof_item_tree : OneofItem → Tree
oneof_item_tree (oneof_item.Option o) = alternative 0 (option_tree o)
oneof_item_tree (oneof_item.Empty s) = alternative 1 (symbol_tree (byte ";") s)
oneof_item_tree (oneof_item.Field m) = past 2 (member_tree m)

abbrev pub oneof_tree : Oneof → Tree
oneof_tree o = block_tree (codes "oneof") o.keyword o.name o.open_brace (row oneof_item_tree o.items) o.close_brace

abbrev pub map_type_tree : MapType → Tree
map_type_tree m =
    symbol_tree (byte "<") m.open_angle ▹ word_tree (word_of_key m.key) m.key_span ▹ symbol_tree (byte ",") m.comma
    ▹ type_tree m.value ▹ symbol_tree (byte ">") m.close_angle

abbrev pub map_tree : MapField → Tree
map_tree m = word_tree (codes "map") m.keyword ▹ Left (map_type_tree m.map_type) ▹ declarator_tree m.declarator

abbrev pub label_tree : Label → Tree
label_tree (label.Optional s) = Left (word_tree (codes "optional") s)
label_tree (label.Repeated s) = Right (word_tree (codes "repeated") s)

abbrev pub field_head_tree : Option Label → FieldType → Tree
field_head_tree None t = Right (type_tree t)
field_head_tree (Some l) t = Left (label_tree l ▹ type_tree t)

abbrev pub field_tree : Field → Tree
field_tree f = field_head_tree f.label f.field_type ▹ declarator_tree f.declarator

-- A field as a statement: where it has no label and the name of its type begins with the word `map`, that rule has it.
abbrev pub unlabelled_tree : Option Span → FullName → Declarator → Tree
unlabelled_tree None n d =
    cond (bytes_eq n.first.text (codes "map"))
    (Left (name_tree n.first ▹ Right (row part_tree n.rest) ▹ declarator_tree d))
    (past 2 (past 3 (full_tree n) ▹ declarator_tree d))
unlabelled_tree (Some dot) n d = past 2 (past 2 (dotted_tree (Some dot) n) ▹ declarator_tree d)

abbrev pub field_statement_tree : Option Label → FieldType → Declarator → Tree
field_statement_tree None (Named n) d = unlabelled_tree n.dot n.name d
field_statement_tree l t d = past 2 (field_head_tree l t ▹ declarator_tree d)

-- A statement of a message, and a message, of the trees of the messages and the statements in them.
abbrev pub item_step : MessageItem-F Tree Tree → Tree
item_step (message_item.Message m) = alternative 0 m
item_step (message_item.Enum e) = alternative 1 (enum_tree e)
item_step (message_item.Option o) = alternative 2 (option_tree o)
item_step (message_item.Oneof o) = alternative 3 (oneof_tree o)
item_step (message_item.Reserved r) = alternative 4 (reserved_tree number_tree r)
item_step (message_item.Map m) = alternative 5 (map_tree m)
item_step (message_item.Empty s) = alternative 6 (symbol_tree (byte ";") s)
item_step (message_item.Field f) = past 5 (field_statement_tree f.label f.field_type f.declarator)

abbrev pub message_step : Message-F Tree Tree → Tree
message_step m = block_tree (codes "message") m.keyword m.name m.open_brace (row (λ t. t) m.items) m.close_brace

abbrev pub message_item_tree : MessageItem → Tree
message_item_tree = fold-MessageItem Tree Tree item_step message_step

abbrev pub message_tree : Message → Tree
message_tree m =
    block_tree (codes "message") m.keyword m.name m.open_brace (row message_item_tree m.items) m.close_brace

abbrev pub package_tree : Package → Tree
package_tree p = word_tree (codes "package") p.keyword ▹ full_tree p.name ▹ symbol_tree (byte ";") p.semicolon

abbrev pub import_tree : Import → Tree
import_tree i =
    word_tree (codes "import") i.keyword ▹ optional (word_tree (codes "public")) i.public ▹ str_tree i.path
    ▹ symbol_tree (byte ";") i.semicolon

abbrev pub syntax_tree : Syntax → Tree
syntax_tree s =
    word_tree (codes "syntax") s.keyword ▹ symbol_tree (byte "=") s.equals ▹ str_tree s.version
    ▹ symbol_tree (byte ";") s.semicolon

abbrev pub statement_tree : Statement → Tree
statement_tree (statement.Import i) = alternative 0 (import_tree i)
statement_tree (statement.Package p) = alternative 1 (package_tree p)
statement_tree (statement.Option o) = alternative 2 (option_tree o)
statement_tree (statement.Message m) = alternative 3 (message_tree m)
statement_tree (statement.Enum e) = alternative 4 (enum_tree e)
statement_tree (statement.Service s) = alternative 5 (service_tree s)
statement_tree (statement.Empty s) = past 6 (symbol_tree (byte ";") s)

abbrev pub file_tree : FileTree → Tree
file_tree f = syntax_tree f.syntax ▹ row statement_tree f.statements
