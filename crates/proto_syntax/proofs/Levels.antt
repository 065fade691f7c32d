-- What one token of look-ahead needs of each rule.
use Rattle.proto_syntax.proofs.Common.{◌≡◌, ℕ, zero, suc, true, false, [], ◌∷◌, codes, refl, append-nil, OneOf, Grammar, ◌⨾◌, Many, begins, goes_on, can_be_empty, decides, symbol, list_of, range_of, rpc_item, service_item, enum_item, oneof_item, message_item, statement}
use Prim.Native.String.{String}
use Rattle.proto_syntax.specs.Language.{str, parts, full, named_but, type_but, signed, constant_number, constant, setting, options, option, rpc_type, rpc_body, rpc, service, erange, ereserved, value, range, reserved, declarator, member, oneof, map_type, map_or_field, field_head, field, message, import, syntax, file}

-- what is used of the messages one level down
pub record IsLevel (m : Grammar) : Type 0 where
  pub begins_so : begins m ≡ OneOf (codes "message" ∷ []) ∷ []
  pub ends_so : goes_on m ≡ []
  pub has_tokens : can_be_empty m ≡ false
  pub decided : decides m ≡ true

pub level : (depth : ℕ) → IsLevel (message depth)
unfolding str parts full named_but type_but signed constant_number constant setting options option erange ereserved
    value range reserved declarator member oneof
    map_type map_or_field field_head field message
level zero = record { begins_so = refl; ends_so = refl; has_tokens = refl; decided = refl }
level (suc depth) =
    let h = level depth in
    let d : decides (message (suc depth)) ≡ true =
    rw (h.begins_so, h.has_tokens, h.decided, h.ends_so) (refl {a = true}) in
    record { begins_so = refl; ends_so = refl; has_tokens = refl; decided = d }

pub begins_message : (depth : ℕ) → begins (message depth) ≡ OneOf (codes "message" ∷ []) ∷ []
begins_message depth = (level depth).begins_so

-- One token decides the statements of a message with what closes it, and those of a file.
pub decided : (depth : ℕ) → (decides (Many (message_item (message depth)) ⨾ symbol "}") ≡ true)
    × (decides (statement (message depth)) ≡ true) × (can_be_empty (statement (message depth)) ≡ false)
    × (decides (syntax ⨾ Many (statement (message depth))) ≡ true)
unfolding str parts full named_but type_but signed constant_number constant setting options option rpc_type rpc_body rpc
    service erange ereserved value range reserved declarator member oneof map_type map_or_field field_head field import
    syntax
decided depth = let h = level depth in
    rw (h.begins_so, h.has_tokens, h.decided, h.ends_so) (refl {a = true}, refl {a = true}, refl, refl {a = true})

pub file_decides : (depth : ℕ) → decides (file depth) ≡ true
unfolding file
file_decides depth = (decided depth).3

pub begins_option : begins option ≡ OneOf (codes "option" ∷ []) ∷ []
unfolding option
begins_option = refl

-- the words with which the others begin
abbrev Begins : Grammar → String → Type 0
Begins g w = begins g ≡ OneOf (codes w ∷ []) ∷ []

pub begins_words : Begins import "import" × Begins service "service" × Begins oneof "oneof"
    × Begins reserved "reserved" × Begins ereserved "reserved" × Begins map_or_field "map"
unfolding import service oneof reserved ereserved map_or_field
begins_words = (refl, refl, refl, refl, refl, refl)

pub begins_rpc : begins rpc ≡ OneOf (codes "rpc" ∷ []) ∷ []
unfolding rpc
begins_rpc = refl

pub oneof_block : decides (Many oneof_item ⨾ symbol "}") ≡ true
unfolding str parts full named_but type_but constant_number constant setting options option declarator member
oneof_block = refl {a = true}

pub enum_block : decides (Many enum_item ⨾ symbol "}") ≡ true
unfolding str parts full signed constant_number constant setting options option erange ereserved value
enum_block = refl {a = true}

pub rpc_block : decides (Many rpc_item ⨾ symbol "}") ≡ true
unfolding str parts full constant_number constant setting option
rpc_block = refl {a = true}

pub service_block : decides (Many service_item ⨾ symbol "}") ≡ true
unfolding str parts full named_but constant_number constant setting option rpc_type rpc_body rpc
service_block = refl {a = true}

pub signed_has_token : can_be_empty signed ≡ false
unfolding signed
signed_has_token = refl

-- a list of ranges begins as its first number
pub begins_ranges : (g : Grammar) → can_be_empty g ≡ false → begins (list_of (range_of g)) ≡ begins g
begins_ranges g h = rw (h, append-nil (begins g), append-nil (begins g)) refl
