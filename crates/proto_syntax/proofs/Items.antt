-- The trees of the items of a message.
use Rattle.proto_syntax.proofs.Common.{ℕ, true, false, not, ◌++◌, ◌≡◌, List, [], ◌∷◌, map, refl, sym, ◌∙◌, ap, arith, bytes_eq, codes, Option, Some, None, bytes_eq-Decides, Spelled, Field, among, IsTree, one, both, second, Tree, Pair, Left, Right, scalar_words, statement_words, Read, read, name_tree, symbol_tree, row, part_tree, declarator_tree, option_tree, enum_tree, oneof_tree, number_tree, reserved_tree, map_tree, field_head_tree, field_tree, unlabelled_tree, field_statement_tree, block_tree, item_step, message_step, message_item_tree, message_tree}
use Rattle.proto_base.specs.declared.place.Span.{Span}
use Rattle.proto_tree.specs.declared.enumeration.Enum.{Enum}
use Rattle.proto_tree.specs.declared.field.Declarator.{Declarator}
use Rattle.proto_tree.specs.declared.field.FieldType.{FieldType}
use Rattle.proto_tree.specs.declared.field.FieldType.TheVariants.{Scalar, Named}
use Rattle.proto_tree.specs.declared.field.Label.{Label}
use Rattle.proto_tree.specs.declared.literal.NumberLiteral.{NumberLiteral}
use Rattle.proto_tree.specs.declared.map_field.MapField.{MapField}
use Rattle.proto_tree.specs.declared.message.Message.{Message}
use Rattle.proto_tree.specs.declared.message.MessageItem.TheVariants as of
use Rattle.proto_tree.specs.declared.message.MessageItem.TheOpen as opened
use Rattle.proto_tree.specs.declared.message.MessageItem.TheFolds.{fold-Message, fold_out-Message}
use Rattle.proto_tree.specs.declared.message.MessageItem.{MessageItem, MessageItem-F, roll-MessageItem, fold-roll-MessageItem, map-MessageItem}
use Rattle.proto_tree.specs.declared.name.FullName.{FullName}
use Rattle.proto_tree.specs.declared.oneof.Oneof.{Oneof}
use Rattle.proto_tree.specs.declared.option.OptionStatement.{OptionStatement}
use Rattle.proto_tree.specs.declared.reserved.Reserved.{Reserved}
use Rattle.proto_syntax.specs.Language.{named_but, type_but, field_head, field}
use Rattle.proto_syntax.proofs.Reach.{read_found}

row_map : {A : Type 0} → (f : A → Tree) (xs : List A) → row (λ t. t) (map f xs) ≡ row f xs
row_map f [] = refl
row_map f (x ∷ xs) = ap (Pair (f x)) (row_map f xs)

pub fold_message : (m : Message) → fold-Message Tree Tree item_step message_step m ≡ message_tree m
fold_message m = fold_out-Message Tree Tree item_step message_step m
    ∙ ap (λ r. block_tree (codes "message") m.keyword m.name m.open_brace r m.close_brace)
    (row_map message_item_tree m.items)

-- the tree of a statement, of the trees of the messages and the statements in it
abbrev pub layer_tree : MessageItem-F MessageItem Message → Tree
layer_tree x = item_step (map-MessageItem MessageItem Message Tree Tree message_item_tree message_tree x)

pub layer : (x : MessageItem-F MessageItem Message) → message_item_tree (roll-MessageItem x) ≡ layer_tree x
layer (opened.Message m) = fold-roll-MessageItem Tree Tree item_step message_step (opened.Message m)
    ∙ ap Left (fold_message m)
layer x = fold-roll-MessageItem Tree Tree item_step message_step x

item_of : {i : MessageItem} (x : MessageItem-F MessageItem Message) → roll-MessageItem x ≡ i
    → message_item_tree i ≡ layer_tree x
item_of x e = ap message_item_tree (sym e) ∙ layer x

pub item_enum : (e : Enum) → message_item_tree (of.Enum e) ≡ Right (Left (enum_tree e))
item_enum e = item_of _ (of.rolls-Enum e)

pub item_option : (o : OptionStatement) → message_item_tree (of.Option o) ≡ Right (Right (Left (option_tree o)))
item_option o = item_of _ (of.rolls-Option o)

pub item_oneof : (o : Oneof) → message_item_tree (of.Oneof o) ≡ Right (Right (Right (Left (oneof_tree o))))
item_oneof o = item_of _ (of.rolls-Oneof o)

pub item_reserved : (r : Reserved NumberLiteral)
    → message_item_tree (of.Reserved r) ≡ Right (Right (Right (Right (Left (reserved_tree number_tree r)))))
item_reserved r = item_of _ (of.rolls-Reserved r)

pub item_map : (m : MapField) → message_item_tree (of.Map m) ≡ Right (Right (Right (Right (Right (Left (map_tree m))))))
item_map m = item_of _ (of.rolls-Map m)

pub item_empty : (s : Span) → message_item_tree (of.Empty s)
    ≡ Right (Right (Right (Right (Right (Right (Left (symbol_tree 59 s)))))))
item_empty s = item_of _ (of.rolls-Empty s)

pub item_field : (f : Field) → message_item_tree (of.Field f)
    ≡ Right (Right (Right (Right (Right (field_statement_tree f.label f.field_type f.declarator)))))
item_field f = item_of _ (of.rolls-Field f)

pub item_message : (m : Message) → message_item_tree (of.Message m) ≡ Left (message_tree m)
item_message m = item_of _ (of.rolls-Message m)

-- a field whose type begins with the word `map`
pub item_named : (n : FullName) (d : Declarator) → n.first.text ≡ codes "map"
    → message_item_tree
    (of.Field (record { label = None; field_type = Named (record { dot = None; name = n }); declarator = d }))
    ≡ Right (Right
    (Right (Right
    (Right (Left (Pair (name_tree n.first) (Pair (Right (row part_tree n.rest)) (declarator_tree d))))))))
item_named n d e =
    cc (
      item_field (record { label = None; field_type = Named (record { dot = None; name = n }); declarator = d }),
      (bytes_eq-Decides n.first.text (codes "map")).1 e,
    )

-- and one whose type does not
not_map : (w : List ℕ) → not (among w (scalar_words ++ (codes "map" ∷ statement_words))) ≡ true
    → bytes_eq w (codes "map") ≡ false
not_map w h = grind arith

unlabelled_of : (dot : Option Span) (n : FullName) (d : Declarator)
    → IsTree field_head (field_head_tree None (Named (record { dot = dot; name = n })))
    → unlabelled_tree dot n d
    ≡ Right (Right (Pair (field_head_tree None (Named (record { dot = dot; name = n }))) (declarator_tree d)))
unfolding field_head type_but named_but
unlabelled_of None n d (second (second (second (both (one h) i)))) = cc (not_map n.first.text h)
unlabelled_of (Some dot) n d i = refl

statement_of : (l : Option Label) (t : FieldType) (d : Declarator) → IsTree field_head (field_head_tree l t)
    → field_statement_tree l t d ≡ Right (Right (Pair (field_head_tree l t) (declarator_tree d)))
statement_of None (Named n) d i = unlabelled_of n.dot n.name d i
statement_of None (Scalar s span) d i = refl
statement_of (Some l) t d i = refl

field_of : (f : Field) → IsTree field (field_tree f)
    → field_statement_tree f.label f.field_type f.declarator ≡ Right (Right (field_tree f))
unfolding field
field_of f (both i j) = statement_of f.label f.field_type f.declarator i

-- a field, where the rule of fields has it
pub item_other : (f : Field) (ts us : List Spelled) → read field ts ≡ Read (field_tree f) us
    → message_item_tree (of.Field f) ≡ Right (Right (Right (Right (Right (Right (Right (field_tree f)))))))
item_other f ts us e = item_field f ∙ ap (λ x. Right (Right (Right (Right (Right x)))))
    (field_of f (read_found field ts (field_tree f) us e).0)
