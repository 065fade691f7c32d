-- The grammar of a proto3 file, rule by rule, from its smallest rules up to `file`.
--
-- Above each rule it stands in EBNF: `{ x }` is any number of x, `[ x ]` is x or nothing. Where a choice would leave a
-- list of tokens two trees, the classes of the tokens with which an alternative may begin are told apart, and a comment
-- says so. The order of the alternatives means nothing: no two of them begin with the same token. (Proto3 language
-- specification, "Lexical Elements" to "Proto File".)
use Rattle.std.specs.Prelude.{ℕ, zero, suc, List, [], ◌∷◌, ◌++◌, codes}
use Rattle.std.specs.Str.{byte}
use Prim.Native.String.{String}
use Rattle.proto_syntax.specs.Grammar.{OneOf, NoneOf, AnyNumber, AnyString, Symbol, Grammar, One, ◌⨾◌, ◌∣◌, Many, Beyond, Optional}

-- this word
abbrev pub word : String → Grammar
word w = One (OneOf (codes w ∷ []))

-- this symbol
abbrev pub symbol : String → Grammar
symbol s = One (Symbol (byte s))

abbrev pub ident : Grammar
ident = One (NoneOf [])

-- an identifier that is none of these
abbrev pub ident_but : List (List ℕ) → Grammar
ident_but ws = One (NoneOf ws)

abbrev pub number : Grammar
number = One AnyNumber

-- { "," item }
abbrev pub next_of : Grammar → Grammar
next_of item = symbol "," ⨾ item

-- item { "," item }
abbrev pub list_of : Grammar → Grammar
list_of item = item ⨾ Many (next_of item)

-- scalar = double float int32 int64 uint32 uint64 sint32 sint64
--          fixed32 fixed64 sfixed32 sfixed64 bool string bytes
abbrev pub scalar_words : List (List ℕ)
scalar_words =
    codes "double" ∷ codes "float" ∷ codes "int32" ∷ codes "int64" ∷ codes "uint32" ∷ codes "uint64" ∷ codes "sint32"
    ∷ codes "sint64"
    ∷ codes "fixed32" ∷ codes "fixed64" ∷ codes "sfixed32" ∷ codes "sfixed64" ∷ codes "bool" ∷ codes "string"
    ∷ codes "bytes" ∷ []

abbrev pub scalar : Grammar
scalar = One (OneOf scalar_words)

-- key = any scalar but double, float, bytes
abbrev pub key_words : List (List ℕ)
key_words =
    codes "int32" ∷ codes "int64" ∷ codes "uint32" ∷ codes "uint64" ∷ codes "sint32" ∷ codes "sint64"
    ∷ codes "fixed32" ∷ codes "fixed64" ∷ codes "sfixed32" ∷ codes "sfixed64" ∷ codes "bool" ∷ codes "string" ∷ []

abbrev pub key : Grammar
key = One (OneOf key_words)

-- str = string { string }
abbrev pub string_token : Grammar
string_token = One AnyString

unfoldable pub str : Grammar
str = string_token ⨾ Many string_token

-- full = ident { "." ident }
abbrev pub part : Grammar
part = symbol "." ⨾ ident

unfoldable pub parts : Grammar
parts = Many part

unfoldable pub full : Grammar
full = ident ⨾ parts

-- named = [ "." ] full
--
-- Without the leading dot it does not begin with the word of a scalar, nor with one of the words that begin something
-- else where it stands.
unfoldable pub named_but : List (List ℕ) → Grammar
named_but ws = (symbol "." ⨾ full) ∣ (ident_but (scalar_words ++ ws) ⨾ parts)

-- type = scalar | named
unfoldable pub type_but : List (List ℕ) → Grammar
type_but ws = scalar ∣ named_but ws

-- A statement of a message or a oneof that begins with one of these words does not begin with a type.
abbrev pub statement_words : List (List ℕ)
statement_words =
    codes "message" ∷ codes "enum" ∷ codes "option" ∷ codes "oneof" ∷ codes "reserved" ∷ codes "extend"
    ∷ codes "extensions"
    ∷ codes "optional" ∷ codes "repeated" ∷ codes "required" ∷ codes "group" ∷ []

-- signed = [ "-" ] number
unfoldable pub signed : Grammar
signed = Optional (symbol "-") ⨾ number

-- constant = full | [ "-" | "+" ] number | str
unfoldable pub constant_number : Grammar
constant_number = Optional (symbol "-" ∣ symbol "+") ⨾ number

unfoldable pub constant : Grammar
constant = full ∣ constant_number ∣ str

-- options = "[" full "=" constant { "," full "=" constant } "]"
unfoldable pub setting : Grammar
setting = full ⨾ symbol "=" ⨾ constant

unfoldable pub options : Grammar
options = symbol "[" ⨾ list_of setting ⨾ symbol "]"

-- option = "option" full "=" constant ";"
unfoldable pub option : Grammar
option = word "option" ⨾ setting ⨾ symbol ";"

-- rpc = "rpc" ident "(" [ "stream" ] named ")" "returns"
--       "(" [ "stream" ] named ")" ( ";" | "{" { option | ";" } "}" )
--
-- The word `stream` behind `(` is always the mark, and never the name of a type.
unfoldable pub rpc_type : Grammar
rpc_type = symbol "(" ⨾ ((word "stream" ⨾ named_but []) ∣ named_but (codes "stream" ∷ [])) ⨾ symbol ")"

abbrev pub rpc_item : Grammar
rpc_item = option ∣ symbol ";"

unfoldable pub rpc_body : Grammar
rpc_body = symbol ";" ∣ (symbol "{" ⨾ Many rpc_item ⨾ symbol "}")

unfoldable pub rpc : Grammar
rpc = word "rpc" ⨾ ident ⨾ rpc_type ⨾ word "returns" ⨾ rpc_type ⨾ rpc_body

-- service = "service" ident "{" { rpc | option | ";" } "}"
abbrev pub service_item : Grammar
service_item = rpc ∣ option ∣ symbol ";"

unfoldable pub service : Grammar
service = word "service" ⨾ ident ⨾ symbol "{" ⨾ Many service_item ⨾ symbol "}"

-- number [ "to" ( number | "max" ) ], of numbers or of signed numbers
abbrev pub range_of : Grammar → Grammar
range_of bound = bound ⨾ Optional (word "to" ⨾ (bound ∣ word "max"))

-- "reserved" ( range { "," range } | str { "," str } ) ";"
abbrev pub reserved_of : Grammar → Grammar
reserved_of item = word "reserved" ⨾ (list_of item ∣ list_of str) ⨾ symbol ";"

-- erange = signed [ "to" ( signed | "max" ) ]
unfoldable pub erange : Grammar
erange = range_of signed

-- ereserved = "reserved" ( erange { "," erange } | str { "," str } ) ";"
unfoldable pub ereserved : Grammar
ereserved = reserved_of erange

-- value = ident "=" signed [ options ] ";"
--
-- A value's name is neither `option` nor `reserved`, which begin statements of their own.
unfoldable pub value : Grammar
value = ident_but (codes "option" ∷ codes "reserved" ∷ []) ⨾ symbol "=" ⨾ signed ⨾ Optional options ⨾ symbol ";"

-- enum = "enum" ident "{" { value | option | ereserved | ";" } "}"
abbrev pub enum_item : Grammar
enum_item = option ∣ ereserved ∣ symbol ";" ∣ value

abbrev pub enum : Grammar
enum = word "enum" ⨾ ident ⨾ symbol "{" ⨾ Many enum_item ⨾ symbol "}"

-- range = number [ "to" ( number | "max" ) ]
unfoldable pub range : Grammar
range = range_of number

-- reserved = "reserved" ( range { "," range } | str { "," str } ) ";"
unfoldable pub reserved : Grammar
reserved = reserved_of range

-- ident "=" number [ options ] ";", the end of a field, a map and a oneof's member
unfoldable pub declarator : Grammar
declarator = ident ⨾ symbol "=" ⨾ number ⨾ Optional options ⨾ symbol ";"

-- member = type ident "=" number [ options ] ";"
unfoldable pub member : Grammar
member = type_but statement_words ⨾ declarator

-- oneof = "oneof" ident "{" { member | option | ";" } "}"
abbrev pub oneof_item : Grammar
oneof_item = option ∣ symbol ";" ∣ member

unfoldable pub oneof : Grammar
oneof = word "oneof" ⨾ ident ⨾ symbol "{" ⨾ Many oneof_item ⨾ symbol "}"

-- map = "map" "<" key "," type ">" ident "=" number [ options ] ";"
--
-- A statement of a message that begins with `map` is a map where `<` follows, and else a field whose type begins with
-- that word. One token tells them apart only behind the word, so both stand here.
unfoldable pub map_type : Grammar
map_type = symbol "<" ⨾ key ⨾ symbol "," ⨾ type_but [] ⨾ symbol ">"

unfoldable pub map_or_field : Grammar
map_or_field = word "map" ⨾ (map_type ∣ parts) ⨾ declarator

-- field = [ "optional" | "repeated" ] type ident "=" number [ options ] ";"
--
-- The type behind a label does not begin with `group`, and without a label with none of the words that begin another
-- statement.
abbrev pub label : Grammar
label = word "optional" ∣ word "repeated"

unfoldable pub field_head : Grammar
field_head = (label ⨾ type_but (codes "group" ∷ [])) ∣ type_but (codes "map" ∷ statement_words)

unfoldable pub field : Grammar
field = field_head ⨾ declarator

-- message = "message" ident "{" { field | map | oneof | option | message | enum
--                                 | reserved | ";" } "}"
--
-- A message may hold messages down to the limit of depth: `message d` is one of at most d levels, and none has no
-- level.
abbrev pub message_item : Grammar → Grammar
message_item inner = inner ∣ enum ∣ option ∣ oneof ∣ reserved ∣ map_or_field ∣ symbol ";" ∣ field

unfoldable pub message : ℕ → Grammar
message zero = Beyond (OneOf (codes "message" ∷ []))
message (suc depth) = word "message" ⨾ ident ⨾ symbol "{" ⨾ Many (message_item (message depth)) ⨾ symbol "}"

-- package = "package" full ";"
abbrev pub «package» : Grammar
«package» = word "package" ⨾ full ⨾ symbol ";"

-- import = "import" [ "public" ] str ";"
unfoldable pub import : Grammar
import = word "import" ⨾ Optional (word "public") ⨾ str ⨾ symbol ";"

-- syntax = "syntax" "=" str ";"
unfoldable pub syntax : Grammar
syntax = word "syntax" ⨾ symbol "=" ⨾ str ⨾ symbol ";"

-- file = syntax { import | package | option | message | enum | service | ";" }
abbrev pub statement : Grammar → Grammar
statement top = import ∣ «package» ∣ option ∣ top ∣ enum ∣ service ∣ symbol ";"

unfoldable pub file : ℕ → Grammar
file depth = syntax ⨾ Many (statement (message depth))
