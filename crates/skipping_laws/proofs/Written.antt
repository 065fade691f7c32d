-- The grammar of files of which no setting has a name that goes, and where it leads the watch.
use Rattle.std.specs.Prelude.{◌≡◌, ℕ, zero, suc, List, [], ◌∷◌, ◌++◌, codes}
use Rattle.std.proofs.Common.{refl, ap, ◌∙◌, cond}
use Rattle.proto_syntax.specs.Grammar.{Grammar, ◌⨾◌, ◌∣◌, Many, Beyond, Optional, OneOf}
use Rattle.proto_syntax.specs.Language.{word, symbol, ident, ident_but, number, list_of, str, parts, full, named_but, type_but, statement_words, signed, constant_number, constant, rpc_type, erange, ereserved, range, reserved, map_type, field_head, «package», import, syntax}
use Rattle.source_skip.specs.Shapes.{unwritten, unwritten_of_fields}
use Rattle.skipping_laws.proofs.Watch.{State, Start, Found, under}
use Rattle.skipping_laws.proofs.Ends.{ends, join}

-- the words that go as names of options
abbrev pub gone_names : List (List ℕ)
gone_names = unwritten ++ unwritten_of_fields

abbrev pub setting : Grammar
setting = (ident_but gone_names ⨾ parts) ⨾ symbol "=" ⨾ constant

abbrev pub options : Grammar
options = symbol "[" ⨾ list_of setting ⨾ symbol "]"

abbrev pub option : Grammar
option = word "option" ⨾ setting ⨾ symbol ";"

abbrev pub rpc_item : Grammar
rpc_item = option ∣ symbol ";"

abbrev pub rpc_body : Grammar
rpc_body = symbol ";" ∣ (symbol "{" ⨾ Many rpc_item ⨾ symbol "}")

abbrev pub rpc : Grammar
rpc = word "rpc" ⨾ ident ⨾ rpc_type ⨾ word "returns" ⨾ rpc_type ⨾ rpc_body

abbrev pub service_item : Grammar
service_item = rpc ∣ option ∣ symbol ";"

abbrev pub service : Grammar
service = word "service" ⨾ ident ⨾ symbol "{" ⨾ Many service_item ⨾ symbol "}"

abbrev pub value : Grammar
value = ident_but (codes "option" ∷ codes "reserved" ∷ []) ⨾ symbol "=" ⨾ signed ⨾ Optional options ⨾ symbol ";"

abbrev pub enum_item : Grammar
enum_item = option ∣ ereserved ∣ symbol ";" ∣ value

abbrev pub enum : Grammar
enum = word "enum" ⨾ ident ⨾ symbol "{" ⨾ Many enum_item ⨾ symbol "}"

abbrev pub declarator : Grammar
declarator = ident ⨾ symbol "=" ⨾ number ⨾ Optional options ⨾ symbol ";"

abbrev pub member : Grammar
member = type_but statement_words ⨾ declarator

abbrev pub oneof_item : Grammar
oneof_item = option ∣ symbol ";" ∣ member

abbrev pub oneof : Grammar
oneof = word "oneof" ⨾ ident ⨾ symbol "{" ⨾ Many oneof_item ⨾ symbol "}"

abbrev pub map_or_field : Grammar
map_or_field = word "map" ⨾ (map_type ∣ parts) ⨾ declarator

abbrev pub field : Grammar
field = field_head ⨾ declarator

abbrev pub message_item : Grammar → Grammar
message_item inner = inner ∣ enum ∣ option ∣ oneof ∣ reserved ∣ map_or_field ∣ symbol ";" ∣ field

unfoldable pub message : ℕ → Grammar
message zero = Beyond (OneOf (codes "message" ∷ []))
message (suc depth) = word "message" ⨾ ident ⨾ symbol "{" ⨾ Many (message_item (message depth)) ⨾ symbol "}"

abbrev pub statement : Grammar → Grammar
statement top = import ∣ «package» ∣ option ∣ top ∣ enum ∣ service ∣ symbol ";"

unfoldable pub file : ℕ → Grammar
file depth = syntax ⨾ Many (statement (message depth))

-- ---- where a statement begins before a rule, one begins behind it

record LeadsOn (g : Grammar) : Type 0 where
  same : ends g Start ≡ Start

both_same : (s t : State) → s ≡ Start → t ≡ Start → join s t ≡ Start
both_same s t h k = rw (h, k) refl

either : {a b : Grammar} → LeadsOn a → LeadsOn b → LeadsOn (a ∣ b)
either {a} {b} h k = record { same = both_same (ends a Start) (ends b Start) h.same k.same }

stays_same : (s : State) → s ≡ Start → cond (under s Start) Start Found ≡ Start
stays_same s h = rw h refl

many : {a : Grammar} → LeadsOn a → LeadsOn (Many a)
many {a} h = record { same = stays_same (ends a Start) h.same }

block : (m : Grammar) → LeadsOn m → LeadsOn (word "message" ⨾ ident ⨾ symbol "{" ⨾ m ⨾ symbol "}")
block m h = record { same = ap (ends (symbol "}")) h.same }

semicolon_leads : LeadsOn (symbol ";")
semicolon_leads = record { same = refl }

option_leads : LeadsOn option
unfolding str parts full constant_number constant
option_leads = record { same = refl }

enum_leads : LeadsOn enum
unfolding str parts full signed constant_number constant erange ereserved
enum_leads = record { same = refl }

oneof_leads : LeadsOn oneof
unfolding str parts full named_but type_but constant_number constant
oneof_leads = record { same = refl }

reserved_leads : LeadsOn reserved
unfolding str range reserved
reserved_leads = record { same = refl }

map_leads : LeadsOn map_or_field
unfolding str parts full named_but type_but constant_number constant map_type
map_leads = record { same = refl }

field_leads : LeadsOn field
unfolding str parts full named_but type_but constant_number constant field_head
field_leads = record { same = refl }

service_leads : LeadsOn service
unfolding str parts full named_but constant_number constant rpc_type
service_leads = record { same = refl }

syntax_leads : LeadsOn syntax
unfolding str syntax
syntax_leads = record { same = refl }

import_leads : LeadsOn import
unfolding str import
import_leads = record { same = refl }

package_leads : LeadsOn «package»
unfolding parts full
package_leads = record { same = refl }

item_leads : (inner : Grammar) → LeadsOn inner → LeadsOn (message_item inner)
item_leads inner h = either h (either enum_leads (either option_leads (either oneof_leads
    (either reserved_leads (either map_leads (either semicolon_leads field_leads))))))

message_leads : (depth : ℕ) → LeadsOn (message depth)
unfolding message
message_leads zero = record { same = refl }
message_leads (suc depth) =
    block (Many (message_item (message depth))) (many (item_leads (message depth) (message_leads depth)))

statement_leads : (top : Grammar) → LeadsOn top → LeadsOn (statement top)
statement_leads top h = either import_leads (either package_leads (either option_leads (either h (either enum_leads
    (either service_leads semicolon_leads)))))

pub file_start : (depth : ℕ) → ends (file depth) Start ≡ Start
unfolding file
file_start depth = ap (ends (Many (statement (message depth)))) syntax_leads.same
    ∙ (many (statement_leads (message depth) (message_leads depth))).same
