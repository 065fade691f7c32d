-- A file of which no setting has a name that goes is one of the grammar without such names.
use Rattle.std.specs.Prelude.{ℕ, zero, suc, Bool, true, false, cond, bytes_eq, codes, List, [], ◌∷◌, map, flat_map, Option, Some, None}
use Rattle.std.specs.List.{AllByRecursion}
use Rattle.proto_checks.proofs.Items.{nested_bodies}
use Rattle.proto_checks.specs.Elements.{bodies_of}
use Rattle.proto_checks.specs.Options.{optioned_fields, optioned_in_oneof}
use Rattle.proto_file.proofs.PlacesWithin.{IsOther, by_items}
use Rattle.proto_options.specs.Options.{bracketed, enum_setting, file_setting, message_setting, oneof_setting, rpc_setting, service_setting}
use Rattle.proto_options.specs.Statements.{enum_value, file_enum, file_message, file_service, message_enum, message_oneof, oneof_field, rpc_items, service_rpc}
use Rattle.proto_syntax.proofs.Items.{item_empty, item_enum, item_field, item_map, item_message, item_oneof, item_option, item_reserved}
use Rattle.proto_syntax.specs.Grammar.{Grammar, ◌⨾◌, ◌∣◌, Many, Optional, Tree, Pair, Left, Right, IsTree, one, both, first, second, none, more}
use Rattle.proto_syntax.specs.Language as language
use Rattle.proto_syntax.specs.Language.{list_of}
use Rattle.proto_syntax.specs.Trees.{row, next_tree, optional, separated_tree, setting_tree, options_tree, option_tree, rpc_item_tree, rpc_body_tree, rpc_tree, service_item_tree, service_tree, value_tree, enum_item_tree, enum_tree, declarator_tree, member_tree, oneof_item_tree, oneof_tree, map_tree, field_statement_tree, unlabelled_tree, message_item_tree, message_tree, statement_tree, file_tree}
use Rattle.proto_tree.specs.Lists.{next_item, separated}
use Rattle.proto_tree.specs.declared.enumeration.Enum.{Enum}
use Rattle.proto_tree.specs.declared.enumeration.EnumItem.{EnumItem}
use Rattle.proto_tree.specs.declared.enumeration.EnumItem.TheVariants as enum_item
use Rattle.proto_tree.specs.declared.enumeration.EnumValue.{EnumValue}
use Rattle.proto_tree.specs.declared.field.Declarator.{Declarator}
use Rattle.proto_tree.specs.declared.field.FieldType.{FieldType}
use Rattle.proto_tree.specs.declared.field.FieldType.TheVariants.{Scalar, Named}
use Rattle.proto_tree.specs.declared.field.Label.{Label}
use Rattle.proto_tree.specs.declared.file.FileTree.{FileTree}
use Rattle.proto_tree.specs.declared.file.Statement.{Statement}
use Rattle.proto_tree.specs.declared.file.Statement.TheVariants as statement
use Rattle.proto_tree.specs.declared.list.Next.{Next}
use Rattle.proto_tree.specs.declared.list.Separated.{Separated}
use Rattle.proto_tree.specs.declared.map_field.MapField.{MapField}
use Rattle.proto_tree.specs.declared.message.Message.{Message}
use Rattle.proto_tree.specs.declared.message.MessageItem.{MessageItem}
use Rattle.proto_tree.specs.declared.message.MessageItem as message_item
use Rattle.proto_tree.specs.declared.message.MessageItem.TheVariants as of
use Rattle.proto_tree.specs.declared.name.FullName.{FullName}
use Rattle.proto_tree.specs.declared.oneof.Oneof.{Oneof}
use Rattle.proto_tree.specs.declared.oneof.OneofField.{OneofField}
use Rattle.proto_tree.specs.declared.oneof.OneofItem.{OneofItem}
use Rattle.proto_tree.specs.declared.oneof.OneofItem.TheVariants as oneof_item
use Rattle.proto_tree.specs.declared.option.OptionStatement.{OptionStatement}
use Rattle.proto_tree.specs.declared.option.Options.{Options}
use Rattle.proto_tree.specs.declared.option.Setting.{Setting}
use Rattle.proto_tree.specs.declared.service.Rpc.{Rpc}
use Rattle.proto_tree.specs.declared.service.RpcBody.{RpcBody}
use Rattle.proto_tree.specs.declared.service.RpcBody.TheVariants as rpc_body
use Rattle.proto_tree.specs.declared.service.RpcItem.{RpcItem}
use Rattle.proto_tree.specs.declared.service.RpcItem.TheVariants as rpc_item
use Rattle.proto_tree.specs.declared.service.Service.{Service}
use Rattle.proto_tree.specs.declared.service.ServiceItem.{ServiceItem}
use Rattle.proto_tree.specs.declared.service.ServiceItem.TheVariants as service_item
use Rattle.proto_base.specs.declared.place.Span.{Span}
use Rattle.skipping_laws.proofs.Known.{AllKnown, BodyKnown, EnumKnown, FieldKnown, FileKnown, Known, MessageKnown, OneofKnown, RpcKnown, ServiceKnown, ValueKnown, parts_known}
use Rattle.skipping_laws.proofs.Written as written

-- a tree of one grammar is one of another
abbrev pub Fine : Grammar → Grammar → Tree → Type 0
Fine g h x = IsTree g x → IsTree h x

-- ---- the parts of grammars

fine_same : {g : Grammar} {x : Tree} → Fine g g x
fine_same tree = tree

fine_both : {a b c d : Grammar} {x y : Tree} → Fine a b x → Fine c d y → Fine (a ⨾ c) (b ⨾ d) (Pair x y)
fine_both h k (both ix iy) = both (h ix) (k iy)

fine_first : {a b c d : Grammar} {x : Tree} → Fine a b x → Fine (a ∣ c) (b ∣ d) (Left x)
fine_first h (first ix) = first (h ix)

fine_second : {a b c d : Grammar} {x : Tree} → Fine c d x → Fine (a ∣ c) (b ∣ d) (Right x)
fine_second h (second ix) = second (h ix)

fine_row : {A : Type 0} (a b : Grammar) (f : A → Tree) (K : A → Type 0) → ((x : A) → K x → Fine a b (f x))
    → (xs : List A) → AllByRecursion K xs → Fine (Many a) (Many b) (row f xs)
fine_row a b f K h [] all tree = none
fine_row a b f K h (x ∷ xs) all (more ix iy) = more (h x all.0 ix) (fine_row a b f K h xs all.1 iy)

next_known : {A : Type 0} (K : A → Type 0) (ns : List (Next A)) → AllByRecursion K (map next_item ns)
    → AllByRecursion (λ n. K (next_item n)) ns
next_known K [] all = tt
next_known K (n ∷ ns) all = (all.0, next_known K ns all.1)

fine_list : {A : Type 0} (a b : Grammar) (f : A → Tree) (K : A → Type 0) → ((x : A) → K x → Fine a b (f x))
    → (s : Separated A) → AllByRecursion K (separated s) → Fine (list_of a) (list_of b) (separated_tree f s)
fine_list a b f K h s all = fine_both (h s.first all.0)
    (fine_row (language.next_of a) (language.next_of b) (next_tree f) (λ n. K (next_item n))
    (λ n k. fine_both fine_same (h n.item k)) s.rest (next_known K s.rest all.1))

-- ---- options

fine_setting : (s : Setting) → Known s → Fine language.setting written.setting (setting_tree s)
unfolding language.setting language.full
fine_setting s known (both (both n parts) rest) = both (both (one known) parts) rest

fine_bracketed : (o : Option Options) → AllKnown (bracketed o)
    → Fine (Optional language.options) (Optional written.options) (optional options_tree o)
unfolding language.options
fine_bracketed None known = fine_second fine_same
fine_bracketed (Some o) known = fine_first (fine_both fine_same (fine_both
    (fine_list language.setting written.setting setting_tree Known fine_setting o.settings known) fine_same))

fine_option : (o : OptionStatement) → Known o.setting → Fine language.option written.option (option_tree o)
unfolding language.option
fine_option o known = fine_both fine_same (fine_both (fine_setting o.setting known) fine_same)

-- ---- services

fine_rpc_item : (i : RpcItem) → AllKnown (rpc_setting i) → Fine language.rpc_item written.rpc_item (rpc_item_tree i)
fine_rpc_item (rpc_item.Option o) known = fine_first (fine_option o known.0)
fine_rpc_item (rpc_item.Empty s) known = fine_second fine_same

fine_rpc_body : (b : RpcBody) → AllKnown (flat_map rpc_setting (rpc_items b))
    → Fine language.rpc_body written.rpc_body (rpc_body_tree b)
unfolding language.rpc_body
fine_rpc_body (rpc_body.Semicolon s) known = fine_first fine_same
fine_rpc_body (rpc_body.Block b) known = fine_second (fine_both fine_same (fine_both
    (fine_row language.rpc_item written.rpc_item rpc_item_tree (λ i. AllKnown (rpc_setting i)) fine_rpc_item b.items
    (parts_known Known rpc_setting b.items known)) fine_same))

fine_rpc : (r : Rpc) → RpcKnown r → Fine language.rpc written.rpc (rpc_tree r)
unfolding language.rpc
fine_rpc r known = fine_both fine_same (fine_both fine_same (fine_both fine_same (fine_both fine_same
    (fine_both fine_same (fine_rpc_body r.body known)))))

abbrev ServiceItemKnown : ServiceItem → Type 0
ServiceItemKnown i = AllKnown (service_setting i) × AllByRecursion RpcKnown (service_rpc i)

fine_service_item : (i : ServiceItem) → ServiceItemKnown i
    → Fine language.service_item written.service_item (service_item_tree i)
fine_service_item (service_item.Rpc r) known = fine_first (fine_rpc r known.1.0)
fine_service_item (service_item.Option o) known = fine_second (fine_first (fine_option o known.0.0))
fine_service_item (service_item.Empty s) known = fine_second (fine_second fine_same)

-- both of two lists' facts
both_known : {A : Type 0} (P Q : A → Type 0) (xs : List A) → AllByRecursion P xs → AllByRecursion Q xs
    → AllByRecursion (λ x. P x × Q x) xs
both_known P Q [] p q = tt
both_known P Q (x ∷ xs) p q = ((p.0, q.0), both_known P Q xs p.1 q.1)

fine_service : (s : Service) → ServiceKnown s → Fine language.service written.service (service_tree s)
unfolding language.service
fine_service s known = fine_both fine_same (fine_both fine_same (fine_both fine_same (fine_both
    (fine_row language.service_item written.service_item service_item_tree ServiceItemKnown fine_service_item s.items
    (both_known (λ i. AllKnown (service_setting i)) (λ i. AllByRecursion RpcKnown (service_rpc i)) s.items
    (parts_known Known service_setting s.items known.0) (parts_known RpcKnown service_rpc s.items known.1)))
    fine_same)))

-- ---- enums

fine_value : (v : EnumValue) → ValueKnown v → Fine language.value written.value (value_tree v)
unfolding language.value
fine_value v known = fine_both fine_same (fine_both fine_same (fine_both fine_same
    (fine_both (fine_bracketed v.options known) fine_same)))

abbrev EnumItemKnown : EnumItem → Type 0
EnumItemKnown i = AllKnown (enum_setting i) × AllByRecursion ValueKnown (enum_value i)

fine_enum_item : (i : EnumItem) → EnumItemKnown i → Fine language.enum_item written.enum_item (enum_item_tree i)
fine_enum_item (enum_item.Option o) known = fine_first (fine_option o known.0.0)
fine_enum_item (enum_item.Reserved r) known = fine_second (fine_first fine_same)
fine_enum_item (enum_item.Empty s) known = fine_second (fine_second (fine_first fine_same))
fine_enum_item (enum_item.Value v) known = fine_second (fine_second (fine_second (fine_value v known.1.0)))

fine_enum : (e : Enum) → EnumKnown e → Fine language.enum written.enum (enum_tree e)
fine_enum e known = fine_both fine_same (fine_both fine_same (fine_both fine_same (fine_both
    (fine_row language.enum_item written.enum_item enum_item_tree EnumItemKnown fine_enum_item e.items
    (both_known (λ i. AllKnown (enum_setting i)) (λ i. AllByRecursion ValueKnown (enum_value i)) e.items
    (parts_known Known enum_setting e.items known.0) (parts_known ValueKnown enum_value e.items known.1)))
    fine_same)))

-- ---- fields

abbrev DeclaratorKnown : Declarator → Type 0
DeclaratorKnown d = AllKnown (bracketed d.options)

fine_declarator : (d : Declarator) → DeclaratorKnown d
    → Fine language.declarator written.declarator (declarator_tree d)
unfolding language.declarator
fine_declarator d known = fine_both fine_same (fine_both fine_same (fine_both fine_same
    (fine_both (fine_bracketed d.options known) fine_same)))

fine_member : (m : OneofField) → DeclaratorKnown m.declarator → Fine language.member written.member (member_tree m)
unfolding language.member
fine_member m known = fine_both fine_same (fine_declarator m.declarator known)

fine_map : (m : MapField) → DeclaratorKnown m.declarator
    → Fine language.map_or_field written.map_or_field (map_tree m)
unfolding language.map_or_field
fine_map m known = fine_both fine_same (fine_both fine_same (fine_declarator m.declarator known))

-- a field as a statement, whichever rule has it
abbrev MapOr : Grammar → Grammar → Grammar
MapOr map field = map ∣ language.symbol ";" ∣ field

abbrev FineField : Tree → Type 0
FineField = Fine (MapOr language.map_or_field language.field) (MapOr written.map_or_field written.field)

fine_plain : (t : Tree) (d : Declarator) → DeclaratorKnown d → FineField (Right (Right (Pair t (declarator_tree d))))
unfolding language.field
fine_plain t d known = fine_second (fine_second (fine_both fine_same (fine_declarator d known)))

fine_mapped : (t u : Tree) (d : Declarator) → DeclaratorKnown d
    → FineField (Left (Pair t (Pair u (declarator_tree d))))
unfolding language.map_or_field
fine_mapped t u d known = fine_first (fine_both fine_same (fine_both fine_same (fine_declarator d known)))

fine_either : (b : Bool) (t u : Tree) → FineField t → FineField u → FineField (cond b t u)
fine_either true t u h k = h
fine_either false t u h k = k

fine_unlabelled : (dot : Option Span) (n : FullName) (d : Declarator) → DeclaratorKnown d
    → FineField (unlabelled_tree dot n d)
fine_unlabelled None n d known = fine_either (bytes_eq n.first.text (codes "map")) _ _ (fine_mapped _ _ d known)
    (fine_plain _ d known)
fine_unlabelled (Some dot) n d known = fine_plain _ d known

fine_field : (label : Option Label) (t : FieldType) (d : Declarator) → DeclaratorKnown d
    → FineField (field_statement_tree label t d)
fine_field None (Named n) d known = fine_unlabelled n.dot n.name d known
fine_field None (Scalar s span) d known = fine_plain _ d known
fine_field (Some l) t d known = fine_plain _ d known

-- ---- oneofs

-- a oneof's fields
abbrev MemberKnown : OneofField → Type 0
MemberKnown f = DeclaratorKnown f.declarator

members_known : (fs : List OneofField) → AllByRecursion FieldKnown (map optioned_in_oneof fs)
    → AllByRecursion MemberKnown fs
members_known [] all = tt
members_known (f ∷ fs) all = (all.0, members_known fs all.1)

abbrev OneofItemKnown : OneofItem → Type 0
OneofItemKnown i =
    AllKnown (oneof_setting i) × AllByRecursion MemberKnown (oneof_field i)

fine_oneof_item : (i : OneofItem) → OneofItemKnown i
    → Fine language.oneof_item written.oneof_item (oneof_item_tree i)
fine_oneof_item (oneof_item.Option o) known = fine_first (fine_option o known.0.0)
fine_oneof_item (oneof_item.Empty s) known = fine_second (fine_first fine_same)
fine_oneof_item (oneof_item.Field m) known = fine_second (fine_second (fine_member m known.1.0))

fine_oneof : (o : Oneof) → OneofKnown o
    → AllByRecursion FieldKnown (map optioned_in_oneof (flat_map oneof_field o.items))
    → Fine language.oneof written.oneof (oneof_tree o)
unfolding language.oneof
fine_oneof o known fields = fine_both fine_same (fine_both fine_same (fine_both fine_same (fine_both
    (fine_row language.oneof_item written.oneof_item oneof_item_tree OneofItemKnown fine_oneof_item o.items
    (both_known (λ i. AllKnown (oneof_setting i)) (λ i. AllByRecursion MemberKnown (oneof_field i)) o.items
    (parts_known Known oneof_setting o.items known)
    (parts_known MemberKnown oneof_field o.items (members_known (flat_map oneof_field o.items) fields))))
    fine_same)))

-- ---- messages

-- what is known of one statement of a message, and of the messages in it
record ItemKnown (i : MessageItem) : Type 0 where
  settings : AllKnown (message_setting i)
  fields : AllByRecursion FieldKnown (optioned_fields i)
  oneofs : AllByRecursion OneofKnown (message_oneof i)
  enums : AllByRecursion EnumKnown (message_enum i)
  inner : AllByRecursion BodyKnown (bodies_of i)

abbrev FineItem : MessageItem → Type 0
FineItem i = (depth : ℕ) → ItemKnown i → Fine (language.message_item (language.message depth))
    (written.message_item (written.message depth)) (message_item_tree i)

abbrev FineMessage : Message → Type 0
FineMessage m =
    (depth : ℕ) → MessageKnown m → Fine (language.message depth) (written.message depth) (message_tree m)

of_message : (m : Message) → FineMessage m → FineItem (of.Message m)
of_message m h depth known = rw (item_message m) (fine_first (h depth (rw (nested_bodies m) at known.inner)))

other : (i : MessageItem) → IsOther i → FineItem i
other (message_item.Enum e) k depth known = rw (item_enum e) (fine_second (fine_first (fine_enum e known.enums.0)))
other (message_item.Option o) k depth known =
    rw (item_option o) (fine_second (fine_second (fine_first (fine_option o known.settings.0))))
other (message_item.Oneof o) k depth known =
    rw (item_oneof o) (fine_second (fine_second (fine_second (fine_first
    (fine_oneof o known.oneofs.0 known.fields)))))
other (message_item.Reserved r) k depth known =
    rw (item_reserved r) (fine_second (fine_second (fine_second (fine_second (fine_first fine_same)))))
other (message_item.Map m) k depth known = rw (item_map m)
    (fine_second (fine_second (fine_second (fine_second (fine_second (fine_first (fine_map m known.fields.0)))))))
other (message_item.Empty s) k depth known = rw (item_empty s)
    (fine_second (fine_second (fine_second (fine_second (fine_second (fine_second (fine_first fine_same)))))))
other (message_item.Field f) k depth known = rw (item_field f) (fine_second (fine_second (fine_second (fine_second
    (fine_second (fine_field f.label f.field_type f.declarator known.fields.0))))))
other i k depth known = absurd k

items_known : (is : List MessageItem) → AllKnown (flat_map message_setting is)
    → AllByRecursion FieldKnown (flat_map optioned_fields is) → AllByRecursion OneofKnown (flat_map message_oneof is)
    → AllByRecursion EnumKnown (flat_map message_enum is) → AllByRecursion BodyKnown (flat_map bodies_of is)
    → AllByRecursion ItemKnown is
items_known is a b c d e = together is (parts_known Known message_setting is a)
    (parts_known FieldKnown optioned_fields is b) (parts_known OneofKnown message_oneof is c)
    (parts_known EnumKnown message_enum is d) (parts_known BodyKnown bodies_of is e)
  where
    together : (is : List MessageItem) → AllByRecursion (λ i. AllKnown (message_setting i)) is
        → AllByRecursion (λ i. AllByRecursion FieldKnown (optioned_fields i)) is
        → AllByRecursion (λ i. AllByRecursion OneofKnown (message_oneof i)) is
        → AllByRecursion (λ i. AllByRecursion EnumKnown (message_enum i)) is
        → AllByRecursion (λ i. AllByRecursion BodyKnown (bodies_of i)) is → AllByRecursion ItemKnown is
    together [] a b c d e = tt
    together (i ∷ is) a b c d e = (
      record { settings = a.0; fields = b.0; oneofs = c.0; enums = d.0; inner = e.0 },
      together is a.1 b.1 c.1 d.1 e.1,
    )

message_step : (m : Message) → AllByRecursion FineItem m.items → FineMessage m
unfolding language.message written.message
message_step m h zero known tree = elim tree [ ]
message_step m h (suc depth) known tree =
    let own = known.0 in
    fine_both fine_same (fine_both fine_same (fine_both fine_same (fine_both
    (fine_row (language.message_item (language.message depth)) (written.message_item (written.message depth))
    message_item_tree (λ i. FineItem i × ItemKnown i) (λ i k. k.0 depth k.1) m.items
    (both_known FineItem ItemKnown m.items h
    (items_known m.items own.settings own.fields own.oneofs own.enums known.1))) fine_same))) tree

fine_message : (m : Message) → FineMessage m
fine_message = by_items FineItem FineMessage of_message other message_step

-- ---- files

record StatementKnown (s : Statement) : Type 0 where
  settings : AllKnown (file_setting s)
  messages : AllByRecursion MessageKnown (file_message s)
  enums : AllByRecursion EnumKnown (file_enum s)
  services : AllByRecursion ServiceKnown (file_service s)

statements_known : (ss : List Statement) → AllByRecursion (λ s. AllKnown (file_setting s)) ss
    → AllByRecursion (λ s. AllByRecursion MessageKnown (file_message s)) ss
    → AllByRecursion (λ s. AllByRecursion EnumKnown (file_enum s)) ss
    → AllByRecursion (λ s. AllByRecursion ServiceKnown (file_service s)) ss → AllByRecursion StatementKnown ss
statements_known [] a b c d = tt
statements_known (s ∷ ss) a b c d =
    (record { settings = a.0; messages = b.0; enums = c.0; services = d.0 }, statements_known ss a.1 b.1 c.1 d.1)

fine_statement : (depth : ℕ) (s : Statement) → StatementKnown s
    → Fine (language.statement (language.message depth)) (written.statement (written.message depth)) (statement_tree s)
fine_statement depth (statement.Import i) known = fine_first fine_same
fine_statement depth (statement.Package p) known = fine_second (fine_first fine_same)
fine_statement depth (statement.Option o) known =
    fine_second (fine_second (fine_first (fine_option o known.settings.0)))
fine_statement depth (statement.Message m) known =
    fine_second (fine_second (fine_second (fine_first (fine_message m depth known.messages.0))))
fine_statement depth (statement.Enum e) known =
    fine_second (fine_second (fine_second (fine_second (fine_first (fine_enum e known.enums.0)))))
fine_statement depth (statement.Service s) known =
    fine_second (fine_second (fine_second (fine_second (fine_second (fine_first
    (fine_service s known.services.0))))))
fine_statement depth (statement.Empty s) known =
    fine_second (fine_second (fine_second (fine_second (fine_second (fine_second fine_same)))))

pub fine_file : (depth : ℕ) (file : FileTree) → FileKnown file
    → Fine (language.file depth) (written.file depth) (file_tree file)
unfolding language.file written.file
fine_file depth file known = fine_both fine_same
    (fine_row (language.statement (language.message depth)) (written.statement (written.message depth)) statement_tree
    StatementKnown (fine_statement depth) file.statements (statements_known file.statements
    (parts_known Known file_setting file.statements known.settings)
    (parts_known MessageKnown file_message file.statements known.messages)
    (parts_known EnumKnown file_enum file.statements known.enums)
    (parts_known ServiceKnown file_service file.statements known.services)))
