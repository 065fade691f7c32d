-- Values with one tree are one value: names, literals and types, then the items of files, then messages and files.
use Rattle.proto_syntax.proofs.Common.{◌≡◌, List, [], ◌∷◌, Option, None, Some, refl, sym, ◌∙◌, ap, subst, map, arith, Lexeme, Field, Tree, Pair, Left, Right, leaf, name_tree, number_tree, string_tree, row, optional, next_tree, separated_tree, str_tree, part_tree, full_tree, dotted_tree, named_tree, word_of_scalar, word_of_key, type_tree, signed_tree, sign_tree, constant_number_tree, constant_tree, setting_tree, options_tree, option_tree, streamed_tree, rpc_type_tree, rpc_item_tree, rpc_block_tree, rpc_body_tree, rpc_tree, service_item_tree, service_tree, bound_tree, range_end_tree, range_tree, reserved_items_tree, reserved_tree, value_tree, enum_item_tree, enum_tree, declarator_tree, member_tree, oneof_item_tree, oneof_tree, map_type_tree, map_tree, label_tree, field_head_tree, field_statement_tree, message_item_tree, message_tree, package_tree, import_tree, syntax_tree, statement_tree, file_tree}
use Rattle.proto_base.specs.declared.place.Span.{Span}
use Rattle.proto_base.specs.declared.scalar_type.KeyType.{KeyType}
use Rattle.proto_base.specs.declared.scalar_type.ScalarType.{ScalarType}
use Rattle.proto_tree.specs.declared.constant.Constant.TheVariants as constant
use Rattle.proto_tree.specs.declared.enumeration.EnumItem.TheVariants as enum_item
use Rattle.proto_tree.specs.declared.field.FieldType.TheVariants.{Scalar, Named}
use Rattle.proto_tree.specs.declared.file.Statement.TheVariants as statement
use Rattle.proto_tree.specs.declared.message.Message.{Message, Message-F, roll-Message, ind-Message, map-Message}
use Rattle.proto_tree.specs.declared.message.MessageItem.{MessageItem, MessageItem-F, out-MessageItem, roll-MessageItem, roll-out-MessageItem, map-MessageItem}
use Rattle.proto_tree.specs.declared.message.MessageItem.TheOpen as opened
use Rattle.proto_tree.specs.declared.oneof.OneofItem.TheVariants as oneof_item
use Rattle.proto_tree.specs.declared.reserved.ReservedItems.TheVariants as listed
use Rattle.proto_tree.specs.declared.reserved.UpperBound.TheVariants as upper_bound
use Rattle.proto_tree.specs.declared.service.RpcBody.TheVariants as rpc_body
use Rattle.proto_tree.specs.declared.service.RpcItem.TheVariants as rpc_item
use Rattle.proto_tree.specs.declared.service.ServiceItem.TheVariants as service_item
use Rattle.proto_syntax.proofs.Items.{layer_tree, layer}

-- values with one tree are one value
abbrev Same : {A : Type 0} → (A → Tree) → Type 0
Same {A} f = (x y : A) → f x ≡ f y → x ≡ y

-- what follows of the parts of a pair
each : {P Q : Type 0} {s t u v : Tree} → (s ≡ t → P) → (u ≡ v → Q) → Pair s u ≡ Pair t v → P × Q
each h k e = (h (cc), k (cc))

both : {A P : Type 0} {f : A → Tree} {x y : A} {t u : Tree} → Same f → (t ≡ u → P)
    → Pair (f x) t ≡ Pair (f y) u → (x ≡ y) × P
both s = each (s _ _)

same_span : {w v : Lexeme} (x y : Span) → leaf w x ≡ leaf v y → x ≡ y
same_span x y e = grind arith

same_name : Same name_tree
same_name x y e = grind arith

same_number : Same number_tree
same_number x y e = grind arith

same_string : Same string_tree
same_string x y e = grind arith

same_row : {A : Type 0} {f : A → Tree} → Same f → Same (row f)
same_row h [] [] e = refl
same_row h (x ∷ xs) (y ∷ ys) e = let p = both h (same_row h xs ys) e in cc
same_row h x y e = cc

same_optional : {A : Type 0} {f : A → Tree} → Same f → Same (optional f)
same_optional h None None e = refl
same_optional h (Some x) (Some y) e = ap Some (h x y (cc))
same_optional h x y e = cc

same_next : {A : Type 0} {f : A → Tree} → Same f → Same (next_tree f)
same_next h x y e = grind (arith, both same_span (h _ _) e)

same_separated : {A : Type 0} {f : A → Tree} → Same f → Same (separated_tree f)
same_separated h x y e = grind (arith, both h (same_row (same_next h) _ _) e)

same_str : Same str_tree
same_str x y e = grind (arith, both same_string (same_row same_string _ _) e)

same_part : Same part_tree
same_part x y e = grind (arith, both same_span (same_name _ _) e)

same_full : Same full_tree
same_full x y e = grind (arith, both same_name (same_row same_part _ _) e)

-- what may stand before another part
same_before : {A B : Type 0} {f : A → Tree} {g : B → Tree} (t : Option A → B → Tree)
    → ((y : B) → t None y ≡ Right (g y)) → ((x : A) (y : B) → t (Some x) y ≡ Left (Pair (f x) (g y)))
    → Same f → Same g → (x v : Option A) (y w : B) → t x y ≡ t v w → (x ≡ v) × (y ≡ w)
same_before t a b h k None None y w e = (refl, k y w (cc (a y, a w)))
same_before t a b h k (Some x) (Some v) y w e = (ap Some (h x v (cc (b x y, b v w))), k y w (cc (b x y, b v w)))
same_before t a b h k None (Some v) y w e = cc (a y, b v w)
same_before t a b h k (Some x) None y w e = cc (b x y, a w)

same_named : Same named_tree
same_named x y e =
    grind (arith, same_before dotted_tree (λ n. refl) (λ d n. refl) same_span same_full x.dot y.dot _ _ e)

same_scalar : (x y : ScalarType) → word_of_scalar x ≡ word_of_scalar y → x ≡ y
same_scalar x y e = grind arith

same_key : (x y : KeyType) → word_of_key x ≡ word_of_key y → x ≡ y
same_key x y e = grind arith

same_type : Same type_tree
same_type (Scalar s a) (Scalar t b) e = grind (arith, same_scalar s t)
same_type (Named n) (Named m) e = ap Named (same_named n m (cc))
same_type x y e = cc

same_signed : Same signed_tree
same_signed x y e = grind (arith, both (same_optional same_span) (same_number _ _) e)

same_sign : Same sign_tree
same_sign x y e = grind arith

same_constant_number : Same constant_number_tree
same_constant_number x y e = grind (arith, both (same_optional same_sign) (same_number _ _) e)

same_constant : Same constant_tree
same_constant (constant.Name a) (constant.Name b) e = ap constant.Name (same_full a b (cc))
same_constant (constant.Number a) (constant.Number b) e = ap constant.Number (same_constant_number a b (cc))
same_constant (constant.String a) (constant.String b) e = ap constant.String (same_str a b (cc))
same_constant x y e = cc

same_setting : Same setting_tree
same_setting x y e = grind (arith, both same_full (both same_span (same_constant _ _)) e)

same_options : Same options_tree
same_options x y e = grind (arith, both same_span (both (same_separated same_setting) (same_span _ _)) e)

same_option : Same option_tree
same_option x y e = grind (arith, both same_span (both same_setting (same_span _ _)) e)

same_rpc_type : Same rpc_type_tree
same_rpc_type x y e =
    let q = same_before streamed_tree (λ n. refl) (λ d n. refl) same_span same_named x.stream y.stream x.name y.name in
    grind (arith, both same_span (each q (same_span _ _)) e)

same_rpc_item : Same rpc_item_tree
same_rpc_item (rpc_item.Option a) (rpc_item.Option b) e = ap rpc_item.Option (same_option a b (cc))
same_rpc_item (rpc_item.Empty a) (rpc_item.Empty b) e = grind arith
same_rpc_item x y e = cc

same_rpc_block : Same rpc_block_tree
same_rpc_block x y e = grind (arith, both same_span (both (same_row same_rpc_item) (same_span _ _)) e)

same_rpc_body : Same rpc_body_tree
same_rpc_body (rpc_body.Semicolon a) (rpc_body.Semicolon b) e = grind arith
same_rpc_body (rpc_body.Block a) (rpc_body.Block b) e = ap rpc_body.Block (same_rpc_block a b (cc))
same_rpc_body x y e = cc

same_rpc : Same rpc_tree
same_rpc x y e =
    let p = both same_span (both same_name (both same_rpc_type (both same_span
    (both same_rpc_type (same_rpc_body _ _))))) e in grind arith

same_service_item : Same service_item_tree
same_service_item (service_item.Rpc a) (service_item.Rpc b) e = ap service_item.Rpc (same_rpc a b (cc))
same_service_item (service_item.Option a) (service_item.Option b) e = ap service_item.Option (same_option a b (cc))
same_service_item (service_item.Empty a) (service_item.Empty b) e = grind arith
same_service_item x y e = cc

same_service : Same service_tree
same_service x y e =
    let p = both same_span (both same_name (both same_span (both (same_row same_service_item) (same_span _ _)))) e in
    grind arith

same_bound : {N : Type 0} {f : N → Tree} → Same f → Same (bound_tree f)
same_bound h (upper_bound.Number a) (upper_bound.Number b) e = ap upper_bound.Number (h a b (cc))
same_bound h (upper_bound.Max a) (upper_bound.Max b) e = grind arith
same_bound h x y e = cc

same_range_end : {N : Type 0} {f : N → Tree} → Same f → Same (range_end_tree f)
same_range_end h x y e = grind (arith, both same_span (same_bound h _ _) e)

same_range : {N : Type 0} {f : N → Tree} → Same f → Same (range_tree f)
same_range h x y e = grind (arith, both h (same_optional (same_range_end h) _ _) e)

same_reserved_items : {N : Type 0} {f : N → Tree} → Same f → Same (reserved_items_tree f)
same_reserved_items h (listed.Ranges a) (listed.Ranges b) e = ap listed.Ranges (same_separated (same_range h) a b (cc))
same_reserved_items h (listed.Names a) (listed.Names b) e = ap listed.Names (same_separated same_str a b (cc))
same_reserved_items h x y e = cc

same_reserved : {N : Type 0} {f : N → Tree} → Same f → Same (reserved_tree f)
same_reserved h x y e = grind (arith, both same_span (both (same_reserved_items h) (same_span _ _)) e)

same_value : Same value_tree
same_value x y e =
    let p = both same_name (both same_span (both same_signed (both (same_optional same_options) (same_span _ _)))) e in
    grind arith

same_enum_item : Same enum_item_tree
same_enum_item (enum_item.Option a) (enum_item.Option b) e = ap enum_item.Option (same_option a b (cc))
same_enum_item (enum_item.Reserved a) (enum_item.Reserved b) e = grind (arith, same_reserved same_signed a b)
same_enum_item (enum_item.Empty a) (enum_item.Empty b) e = grind arith
same_enum_item (enum_item.Value a) (enum_item.Value b) e = ap enum_item.Value (same_value a b (cc))
same_enum_item x y e = cc

same_enum : Same enum_tree
same_enum x y e =
    grind (arith, both same_span (both same_name (both same_span (both (same_row same_enum_item) (same_span _ _)))) e)

same_declarator : Same declarator_tree
same_declarator x y e =
    let p = both same_name (both same_span (both same_number (both (same_optional same_options) (same_span _ _)))) e in
    grind arith

same_member : Same member_tree
same_member x y e = grind (arith, both same_type (same_declarator _ _) e)

same_oneof_item : Same oneof_item_tree
same_oneof_item (oneof_item.Option a) (oneof_item.Option b) e = ap oneof_item.Option (same_option a b (cc))
same_oneof_item (oneof_item.Empty a) (oneof_item.Empty b) e = grind arith
same_oneof_item (oneof_item.Field a) (oneof_item.Field b) e = ap oneof_item.Field (same_member a b (cc))
same_oneof_item x y e = cc

same_oneof : Same oneof_tree
same_oneof x y e =
    grind (arith, both same_span (both same_name (both same_span (both (same_row same_oneof_item) (same_span _ _)))) e)

same_map_type : Same map_type_tree
same_map_type x y e =
    let p = both same_span (each (λ r. r) (both same_span (both same_type (same_span _ _)))) e in
    grind (arith, same_key x.key y.key, same_span x.key_span y.key_span p.1.0)

same_map : Same map_tree
same_map x y e =
    grind (arith, same_map_type x.map_type y.map_type, both same_span (each (λ r. r) (same_declarator _ _)) e)

same_label : Same label_tree
same_label x y e = grind arith

-- a field, whichever rule has its statement
abbrev as_field : Tree → Tree
as_field (Left (Pair w (Pair (Right r) d))) = Pair (Right (Right (Right (Pair w r)))) d
as_field (Right (Right t)) = t
as_field t = t

as_field_statement : (f : Field) → as_field (field_statement_tree f.label f.field_type f.declarator)
    ≡ Pair (field_head_tree f.label f.field_type) (declarator_tree f.declarator)
as_field_statement f = grind arith

same_field : (x y : Field) → field_statement_tree x.label x.field_type x.declarator
    ≡ field_statement_tree y.label y.field_type y.declarator → x ≡ y
same_field x y e =
    let head = same_before field_head_tree (λ t. refl) (λ l t. refl) same_label same_type x.label y.label x.field_type
    y.field_type in
    grind (
      arith,
      each head (same_declarator x.declarator y.declarator)
          (sym (as_field_statement x) ∙ ap as_field e ∙ as_field_statement y),
    )

-- The statements of a message: by induction, from the statements of the messages in it.
abbrev ItemSame : MessageItem → Type 0
ItemSame i = (j : MessageItem) → message_item_tree i ≡ message_item_tree j → i ≡ j

abbrev MessageSame : Message → Type 0
MessageSame m = (n : Message) → message_tree m ≡ message_tree n → m ≡ n

abbrev KnownItem : Type 0
KnownItem = (i : MessageItem) × ItemSame i

abbrev KnownMessage : Type 0
KnownMessage = (m : Message) × MessageSame m

abbrev plain : MessageItem-F KnownItem KnownMessage → MessageItem-F MessageItem Message
plain = map-MessageItem KnownItem KnownMessage MessageItem Message (λ i. i.0) (λ m. m.0)

abbrev field_layer : Tree → Tree
field_layer (Right (Right (Right (Right (Right t))))) = as_field t
field_layer t = t

same_layer : (x : MessageItem-F KnownItem KnownMessage) (y : MessageItem-F MessageItem Message)
    → layer_tree (plain x) ≡ layer_tree y → plain x ≡ y
same_layer (opened.Message m) (opened.Message n) e = ap opened.Message (m.1 n (cc))
same_layer (opened.Enum a) (opened.Enum b) e = ap opened.Enum (same_enum a b (cc))
same_layer (opened.Option a) (opened.Option b) e = ap opened.Option (same_option a b (cc))
same_layer (opened.Oneof a) (opened.Oneof b) e = ap opened.Oneof (same_oneof a b (cc))
same_layer (opened.Reserved a) (opened.Reserved b) e = ap opened.Reserved (same_reserved same_number a b (cc))
same_layer (opened.Map a) (opened.Map b) e = ap opened.Map (same_map a b (cc))
same_layer (opened.Empty a) (opened.Empty b) e = grind arith
same_layer (opened.Field a) (opened.Field b) e = ap opened.Field (same_field a b (cc))
same_layer (opened.Field f) y e = cc (as_field_statement f, ap field_layer e)
same_layer x (opened.Field f) e = cc (as_field_statement f, ap field_layer e)
same_layer x y e = cc

same_items : (xs : List KnownItem) (ys : List MessageItem)
    → row message_item_tree (map (λ e. e.0) xs) ≡ row message_item_tree ys → map (λ e. e.0) xs ≡ ys
same_items [] [] e = refl
same_items (x ∷ xs) (y ∷ ys) e = let p = each (x.1 y) (same_items xs ys) e in λ i. p.0 i ∷ p.1 i
same_items x y e = cc

same_item_step : (x : MessageItem-F MessageItem Message) (y : MessageItem-F KnownItem KnownMessage)
    → plain y ≡ x → ItemSame (roll-MessageItem x)
same_item_step x y e j h =
    let k = roll-out-MessageItem j in
    let p = same_layer y (out-MessageItem j) (cc (layer x, layer (out-MessageItem j))) in
    cc

same_message_step : (x : Message-F MessageItem Message) (y : Message-F KnownItem KnownMessage)
    → map-Message KnownItem KnownMessage MessageItem Message (λ i. i.0) (λ m. m.0) y ≡ x → MessageSame (roll-Message x)
same_message_step x y e = subst (λ z. MessageSame (roll-Message z)) e (λ m h. grind (
  arith,
  both same_span (both same_name (both same_span (each (same_items y.items m.items) (same_span _ _)))) h,
))

same_message : (m : Message) → MessageSame m
same_message = ind-Message ItemSame MessageSame same_item_step same_message_step

same_package : Same package_tree
same_package x y e = grind (arith, both same_span (both same_full (same_span _ _)) e)

same_import : Same import_tree
same_import x y e =
    grind (arith, both same_span (both (same_optional same_span) (both same_str (same_span _ _))) e)

same_syntax : Same syntax_tree
same_syntax x y e = grind (arith, both same_span (both same_span (both same_str (same_span _ _))) e)

same_statement : Same statement_tree
same_statement (statement.Import a) (statement.Import b) e = ap statement.Import (same_import a b (cc))
same_statement (statement.Package a) (statement.Package b) e = ap statement.Package (same_package a b (cc))
same_statement (statement.Option a) (statement.Option b) e = ap statement.Option (same_option a b (cc))
same_statement (statement.Message a) (statement.Message b) e = ap statement.Message (same_message a b (cc))
same_statement (statement.Enum a) (statement.Enum b) e = ap statement.Enum (same_enum a b (cc))
same_statement (statement.Service a) (statement.Service b) e = ap statement.Service (same_service a b (cc))
same_statement (statement.Empty a) (statement.Empty b) e = grind arith
same_statement x y e = cc

pub same_file : Same file_tree
same_file x y e = grind (arith, both same_syntax (same_row same_statement _ _) e)
