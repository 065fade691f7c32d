-- What a source with a name describes fits. A message at the greatest depth has two elements within one another at most:
-- an entry and its fields, or an enum and its values.
use Rattle.std.proofs.Common.{◌≡◌, refl, sym, subst, ℕ, zero, suc, ◌+◌, ◌<◌, ◌≤◌, ◌^◌, Bool, true, false, cond, not, ◌==◌, ◌&&◌, List, [], ◌∷◌, ◌++◌, length, map, flat_map, Option, None, Some, IfSome, IsUtf8, arith, length-append}
use Rattle.std.proofs.lemmas.Str.{IsUtf8-append, IsUtf8-nil}
use Rattle.std.specs.List.{AllByRecursion}
use Rattle.std.specs.Option.{is_some}
use Rattle.proto_base.specs.declared.limits.Limits.{Limits}
use Rattle.proto_desc.specs.DeclaredNames.{file_scope}
use Rattle.proto_desc.specs.declared.field.FieldDesc.{FieldDesc}
use Rattle.proto_desc.specs.declared.field.FieldKind.{FieldKind}
use Rattle.proto_desc.specs.declared.field.FieldKind.TheVariants.{Named}
use Rattle.proto_desc.specs.declared.field.FieldLabel.{FieldLabel}
use Rattle.proto_desc.specs.declared.field.FieldLabel.TheVariants.{Optional, Repeated}
use Rattle.proto_desc.specs.declared.file.FileDesc.{FileDesc}
use Rattle.proto_desc.specs.declared.file.PackageDescriptor.{PackageDescriptor}
use Rattle.proto_desc.specs.declared.message.MessageDesc.{MessageDesc, MessageDesc-F, out-roll-MessageDesc, roll-MessageDesc}
use Rattle.proto_desc.specs.declared.oneof.OneofDesc.{OneofDesc}
use Rattle.proto_desc.specs.declared.type_name.TypeKind.TheVariants as type_kind
use Rattle.proto_desc.specs.declared.type_name.TypeReference.TheVariants.{Resolved}
use Rattle.proto_file.proofs.PlacesWithin.{IsOther, both, by_items, each_given, each_held, each_map, each_weaker}
use Rattle.proto_file.specs.Local.{Describes}
use Rattle.proto_lower.proofs.Nested.{nested_message}
use Rattle.proto_lower.specs.Enums.{lowered_enum, value_desc}
use Rattle.proto_lower.specs.Fields.{described, fields_from, inner, is_optional, kind_of, label_of, member_at, real_count}
use Rattle.proto_lower.specs.Files.{import_of, lowered, package_of, package_scope}
use Rattle.proto_lower.specs.Messages.{all_fields, entry_of, lowered_message, nested_of}
use Rattle.proto_lower.specs.Names.{entry_name_of}
use Rattle.proto_lower.specs.Oneofs.{made_named, names_of_fields, names_of_oneofs, real_named, real_oneofs, with_made, with_one}
use Rattle.proto_lower.specs.Services.{lowered_service, method_desc}
use Rattle.proto_options.specs.Statements.{enum_value, file_enum, file_message, file_service, message_enum, message_oneof, oneof_field, service_rpc}
use Rattle.proto_sets.specs.Sets.{depth_of}
use Rattle.proto_syntax.proofs.Begins.{tree_starts}
use Rattle.proto_syntax.proofs.Items.{item_enum, item_field, item_map, item_message, item_oneof}
use Rattle.proto_syntax.proofs.Levels.{level}
use Rattle.proto_syntax.proofs.Reach.{not_empty_longer}
use Rattle.proto_syntax.specs.Grammar.{Grammar, ◌⨾◌, ◌∣◌, Many, Tree, Pair, Left, Right, IsTree, both as both_trees, first, second, more, flatten}
use Rattle.proto_syntax.specs.Language as language
use Rattle.proto_syntax.specs.Reading.{can_be_empty}
use Rattle.proto_syntax.specs.Trees.{declarator_tree, enum_item_tree, enum_tree, field_statement_tree, file_tree, message_item_tree, message_tree, oneof_item_tree, row, service_item_tree, service_tree, statement_tree, str_tree, string_tree}
use Rattle.proto_tree.specs.Text.{joined, literal_text}
use Rattle.proto_tree.specs.declared.enumeration.Enum.{Enum}
use Rattle.proto_tree.specs.declared.enumeration.EnumItem.{EnumItem}
use Rattle.proto_tree.specs.declared.enumeration.EnumItem.TheVariants as enum_item
use Rattle.proto_tree.specs.declared.field.Declarator.{Declarator}
use Rattle.proto_tree.specs.declared.field.FieldType.{FieldType}
use Rattle.proto_tree.specs.declared.field.Label.{Label}
use Rattle.proto_tree.specs.declared.file.FileTree.{FileTree}
use Rattle.proto_tree.specs.declared.file.Statement.{Statement}
use Rattle.proto_tree.specs.declared.file.Statement.TheVariants as statement
use Rattle.proto_tree.specs.declared.literal.StringValue.{StringValue}
use Rattle.proto_tree.specs.declared.map_field.MapField.{MapField}
use Rattle.proto_tree.specs.declared.message.Message.{Message}
use Rattle.proto_tree.specs.declared.message.MessageItem.{MessageItem}
use Rattle.proto_tree.specs.declared.message.MessageItem as message_item
use Rattle.proto_tree.specs.declared.message.MessageItem.TheVariants as of
use Rattle.proto_tree.specs.declared.oneof.OneofItem.{OneofItem}
use Rattle.proto_tree.specs.declared.oneof.OneofItem.TheVariants as oneof_item
use Rattle.proto_tree.specs.declared.service.Service.{Service}
use Rattle.proto_tree.specs.declared.service.ServiceItem.{ServiceItem}
use Rattle.proto_tree.specs.declared.service.ServiceItem.TheVariants as service_item
use Rattle.wire_bytes.specs.Descriptor.{low_bits_of}
use Rattle.set_round_trip.specs.Fits.{EnumFits, FieldFits, FileFits, ImportFits, IsName, MessageFits, MethodFits, OneofFits, ServiceFits, ValueFits}
use Rattle.set_round_trip.proofs.Packages.{package_name}
use Rattle.set_round_trip.proofs.Texts.{entry_text, flat_text, key_text, oneof_text, value_text}
use Rattle.set_round_trip.proofs.Tokens.{EachFits, TreeFits, each_made, listed, source_fits, source_few}

-- ---- trees of a grammar

-- a tree of a grammar, whose tokens fit and are few
record IsFitting (g : Grammar) (t : Tree) : Type 0 where
  tree : IsTree g t
  fits : TreeFits t
  few : length (flatten t) < 2 ^ 63

two_trees : {a b : Grammar} {x y : Tree} → IsTree (a ⨾ b) (Pair x y) → IsTree a x × IsTree b y
two_trees (both_trees left right) = (left, right)

more_trees : {a : Grammar} {x y : Tree} → IsTree (Many a) (Pair x y) → IsTree a x × IsTree (Many a) y
more_trees (more item others) = (item, others)

first_tree : {a b : Grammar} {x : Tree} → IsTree (a ∣ b) (Left x) → IsTree a x
first_tree (first tree) = tree

second_tree : {a b : Grammar} {x : Tree} → IsTree (a ∣ b) (Right x) → IsTree b x
second_tree (second tree) = tree

-- what is known of a pair's trees where its tokens fit and are few
parts_fit : {a b : Grammar} (x y : Tree) → TreeFits (Pair x y) → length (flatten (Pair x y)) < 2 ^ 63
    → IsTree a x × IsTree b y → IsFitting a x × IsFitting b y
parts_fit x y fits few trees =
    let sum = length-append (flatten x) (flatten y) in (
      record { tree = trees.0; fits = fits.0; few = omega (arith, few, sum) },
      record { tree = trees.1; fits = fits.1; few = omega (arith, few, sum) },
    )

both_fit : {a b : Grammar} {x y : Tree} → IsFitting (a ⨾ b) (Pair x y) → IsFitting a x × IsFitting b y
both_fit {x = x} {y = y} is = parts_fit x y is.fits is.few (two_trees is.tree)

first_fits : {a b : Grammar} {x : Tree} → IsFitting (a ∣ b) (Left x) → IsFitting a x
first_fits is = record { tree = first_tree is.tree; fits = is.fits; few = is.few }

second_fits : {a b : Grammar} {x : Tree} → IsFitting (a ∣ b) (Right x) → IsFitting b x
second_fits is = record { tree = second_tree is.tree; fits = is.fits; few = is.few }

module _ {A : Type 0} (g : Grammar) (f : A → Tree) where
  abbrev AllFitting : List A → Type 0
  AllFitting xs = AllByRecursion (λ x. IsFitting g (f x)) xs

  items_fit : (xs : List A) → IsFitting (Many g) (row f xs) → AllFitting xs
  items_fit [] is = tt
  items_fit (x ∷ xs) is =
      let (one, others) = parts_fit (f x) (row f xs) is.fits is.few (more_trees is.tree) in (one, items_fit xs others)

  trees_of : (xs : List A) → AllFitting xs → EachFits f xs
  trees_of xs all = each_weaker (λ x. IsFitting g (f x)) (λ x. TreeFits (f x)) xs (λ x is. is.fits) all

  -- each item takes a token and more
  items_few : can_be_empty g ≡ false → (xs : List A) → AllFitting xs → length xs ≤ length (flatten (row f xs))
  items_few some [] all = omega arith
  items_few some (x ∷ xs) all =
      let rest = flatten (row f xs) in
      let longer = not_empty_longer g (flatten (f x)) rest (tree_starts all.0.tree) some in
      omega (arith, items_few some xs all.1, longer)

-- ---- fields and oneofs

flag_small : (b : Bool) → cond b 1 0 ≤ 1
flag_small true = omega arith
flag_small false = omega arith

made_small : (b : Bool) (made : ℕ) → made < 2 ^ 64 → IfSome (cond b (Some made) None) (λ i. i < 2 ^ 64)
made_small true made small = small
made_small false made small = tt

-- the end of a field as a statement, whichever rule has it
declarator_fits : (label : Option Label) (t : FieldType) (d : Declarator) → TreeFits (field_statement_tree label t d)
    → TreeFits (declarator_tree d)
declarator_fits label t d all = grind arith

module _ (room : ℕ) (some : 0 < room) where
  described_fits : (d : Declarator) (label : FieldLabel) (kind : FieldKind) (oneof : Option ℕ) (is_optional : Bool)
      → TreeFits (declarator_tree d) → IfSome oneof (λ i. i < 2 ^ 64)
      → FieldFits room (described d label kind oneof is_optional)
  described_fits d label kind oneof is_optional all index =
      record { some = some; name = all.0.utf8; number = all.1.1.0; index = index }

  member_fits : (real : ℕ) → real < 2 ^ 64 → (i : OneofItem) → TreeFits (oneof_item_tree i)
      → AllByRecursion (λ m. FieldFits room (member_at real m)) (oneof_field i)
  member_fits real small (oneof_item.Field m) all =
      (described_fits m.declarator Optional (kind_of m.field_type) (Some real) false all.1 small, tt)
  member_fits real small i all = tt

  fields_fit : (full : List ℕ) (real made : ℕ) (is : List MessageItem) → EachFits message_item_tree is
      → real + made + length is ≤ 2 ^ 64 → AllByRecursion (FieldFits room) (fields_from full real made is)
  fields_fit full real made [] all few = tt
  fields_fit full real made (message_item.Field f ∷ is) all few =
      let declarator = declarator_fits f.label f.field_type f.declarator (rw item_field at all.0) in (
        described_fits f.declarator (label_of f.label) (kind_of f.field_type)
            (cond (is_optional f.label) (Some made) None) (is_optional f.label) declarator
            (made_small (is_optional f.label) made (omega (arith, few))),
        fields_fit full real (made + cond (is_optional f.label) 1 0) is all.1
            (omega (arith, few, flag_small (is_optional f.label))),
      )
  fields_fit full real made (message_item.Map m ∷ is) all few =
      let entry = Named (Resolved type_kind.Message (inner full (entry_name_of m.declarator.name.text))) in (
        described_fits m.declarator Repeated entry None false (rw item_map at all.0).1.1 tt,
        fields_fit full real made is all.1 (omega (arith, few)),
      )
  fields_fit full real made (message_item.Oneof o ∷ is) all few =
      both (FieldFits room) (map (member_at real) (flat_map oneof_field o.items)) (fields_from full (real + 1) made is)
      (each_made (FieldFits room) (member_at real) oneof_item_tree oneof_field o.items
      (member_fits real (omega (arith, few))) (listed oneof_item_tree o.items (rw item_oneof at all.0).1.1.1.0))
      (fields_fit full (real + 1) made is all.1 (omega (arith, few)))
  fields_fit full real made (i ∷ is) all few = fields_fit full real made is all.1 (omega (arith, few))

  real_fits : (i : MessageItem) → TreeFits (message_item_tree i)
      → AllByRecursion (λ o. OneofFits room (real_named o.name)) (message_oneof i)
  real_fits (message_item.Oneof o) all = (record { some = some; name = (rw item_oneof at all).1.0.utf8 }, tt)
  real_fits i all = tt

  one_fits : (names : List (List ℕ)) (so_far : List OneofDesc) (f : FieldDesc) (is_optional : Bool)
      → AllByRecursion (OneofFits room) so_far → FieldFits room f
      → AllByRecursion (OneofFits room) (with_one names so_far f is_optional)
  one_fits names so_far f true made fits =
      let taken = names ++ names_of_oneofs so_far in
      both (OneofFits room) so_far (made_named taken f ∷ []) made
      (record { some = some; name = oneof_text taken f.name fits.name }, tt)
  one_fits names so_far f false made fits = made

  made_fit : (names : List (List ℕ)) (so_far : List OneofDesc) (fs : List FieldDesc)
      → AllByRecursion (OneofFits room) so_far → AllByRecursion (FieldFits room) fs
      → AllByRecursion (OneofFits room) (with_made names so_far fs)
  made_fit names so_far [] made fields = made
  made_fit names so_far (f ∷ fs) made fields =
      made_fit names (with_one names so_far f f.proto3_optional) fs
      (one_fits names so_far f f.proto3_optional made fields.0) fields.1

-- ---- enums and services

low_small : (is_negative : Bool) (magnitude : ℕ) → magnitude < 2 ^ 64 → low_bits_of is_negative magnitude < 2 ^ 64
low_small true magnitude small = omega arith
low_small false magnitude small = small

value_fits : (room : ℕ) → 0 < room → (i : EnumItem) → TreeFits (enum_item_tree i)
    → AllByRecursion (λ v. ValueFits room (value_desc v)) (enum_value i)
value_fits room some (enum_item.Value v) all =
    let number = v.number.number.value in (
      record {
        some = some;
        name = all.0.utf8;
        number = low_small (is_some v.number.minus && not (number == 0)) number all.1.1.0.1;
      },
      tt,
    )
value_fits room some i all = tt

enum_fits : (room : ℕ) → 1 < room → (e : Enum) → TreeFits (enum_tree e) → EnumFits room (lowered_enum e)
enum_fits zero deep e all = absurd (omega (arith, deep))
enum_fits (suc room) deep e all = record {
  name = all.1.0.utf8;
  values = each_made (ValueFits room) value_desc enum_item_tree enum_value e.items
      (value_fits room (omega (arith, deep))) (listed enum_item_tree e.items all.1.1.1.0);
}

method_fits : (room : ℕ) → 0 < room → (i : ServiceItem) → TreeFits (service_item_tree i)
    → AllByRecursion (λ r. MethodFits room (method_desc r)) (service_rpc i)
method_fits room some (service_item.Rpc r) all = (record { some = some; name = all.1.0.utf8 }, tt)
method_fits room some i all = tt

service_fits : (room : ℕ) → 1 < room → (s : Service) → TreeFits (service_tree s)
    → ServiceFits room (lowered_service s)
service_fits zero deep s all = absurd (omega (arith, deep))
service_fits (suc room) deep s all = record {
  name = all.1.0.utf8;
  methods = each_made (MethodFits room) method_desc service_item_tree service_rpc s.items
      (method_fits room (omega (arith, deep))) (listed service_item_tree s.items all.1.1.1.0);
}

-- ---- messages

rolled_fits : (room : ℕ) (m : MessageDesc-F MessageDesc) → IsUtf8 m.name → AllByRecursion (FieldFits room) m.fields
    → AllByRecursion (MessageFits room) m.nested → AllByRecursion (EnumFits room) m.enums
    → AllByRecursion (OneofFits room) m.oneofs → MessageFits (suc room) (roll-MessageDesc m)
rolled_fits room m name fields nested enums oneofs = record {
  name = rw (out-roll-MessageDesc m) name;
  fields = rw (out-roll-MessageDesc m) fields;
  nested = rw (out-roll-MessageDesc m) nested;
  enums = rw (out-roll-MessageDesc m) enums;
  oneofs = rw (out-roll-MessageDesc m) oneofs;
}

entry_fits : (room : ℕ) → 1 < room → (m : MapField) → TreeFits (declarator_tree m.declarator)
    → MessageFits room (entry_of m)
entry_fits zero deep m all = absurd (omega (arith, deep))
entry_fits (suc room) deep m all =
    let some : 0 < room = omega (arith, deep) in
    rolled_fits room _ (entry_text m.declarator.name.text all.0.utf8) (
      record { some = some; name = key_text; number = omega arith; index = tt },
      (record { some = some; name = value_text; number = omega arith; index = tt }, tt),
    ) tt tt tt

message_enums : (room : ℕ) → 1 < room → (i : MessageItem) → TreeFits (message_item_tree i)
    → AllByRecursion (λ e. EnumFits room (lowered_enum e)) (message_enum i)
message_enums room deep (message_item.Enum e) all = (enum_fits room deep e (rw item_enum at all), tt)
message_enums room deep i all = tt

-- what is known of a message of a depth, and of a statement of one, where there is room for two elements more
abbrev MessageNested : Message → Type 0
MessageNested m = (depth room : ℕ) → depth + 2 ≤ room → IsFitting (language.message depth) (message_tree m)
    → (scope : List ℕ) → MessageFits room (lowered_message scope m)

abbrev item_of : ℕ → Grammar
item_of depth = language.message_item (language.message depth)

abbrev ItemNested : MessageItem → Type 0
ItemNested i = (depth room : ℕ) → depth + 2 ≤ room → IsFitting (item_of depth) (message_item_tree i)
    → (full : List ℕ) → AllByRecursion (MessageFits room) (nested_of full i)

message_nested : (m : Message) → MessageNested m → ItemNested (of.Message m)
message_nested m held depth room deep is full =
    rw nested_message (held depth room deep (first_fits (rw item_message at is)) full, tt)

other_nested : (i : MessageItem) → IsOther i → ItemNested i
other_nested (message_item.Message' boxed rows) never depth room deep is full = absurd never
other_nested (message_item.Map m) other depth room deep is full =
    (entry_fits room (omega (arith, deep)) m (rw item_map at is.fits).1.1, tt)
other_nested i other depth room deep is full = tt

item_some : (depth : ℕ) → can_be_empty (item_of depth) ≡ false
unfolding language.option language.oneof language.reserved language.map_or_field language.field language.field_head
    language.type_but language.named_but
item_some depth = rw (level depth).has_tokens refl

none_beyond : (x : Tree) → IsTree (language.message zero) x → ⊥
unfolding language.message
none_beyond x tree = elim tree [ ]

items_of : (depth : ℕ) (m : Message) → IsFitting (language.message (suc depth)) (message_tree m)
    → IsFitting (Many (item_of depth)) (row message_item_tree m.items)
unfolding language.message
items_of depth m is = (both_fit (both_fit (both_fit (both_fit is).1).1).1).0

real_few : (is : List MessageItem) → real_count is ≤ length is
real_few [] = omega arith
real_few (message_item.Oneof o ∷ is) = omega (arith, real_few is)
real_few (i ∷ is) = omega (arith, real_few is)

message_step : (m : Message) → AllByRecursion ItemNested m.items → MessageNested m
message_step m held zero room deep is scope = absurd (none_beyond (message_tree m) is.tree)
message_step m held (suc depth) zero deep is scope = absurd (omega (arith, deep))
message_step m held (suc depth) (suc room) deep is scope =
    let full = inner scope m.name.text in
    let row_fits = items_of depth m is in
    let items = items_fit (item_of depth) message_item_tree m.items row_fits in
    let trees = trees_of (item_of depth) message_item_tree m.items items in
    let few = items_few (item_of depth) message_item_tree (item_some depth) m.items items in
    let some : 0 < room = omega (arith, deep) in
    let fields = fields_fit room some full 0 (real_count m.items) m.items trees
    (omega (arith, real_few m.items, few, row_fits.few)) in
    rolled_fits room _ is.fits.1.0.utf8 fields
    (each_held ItemNested (λ i. IsFitting (item_of depth) (message_item_tree i)) (MessageFits room) (nested_of full)
    m.items (λ i nested fitting. nested depth room (omega (arith, deep)) fitting full) held items)
    (each_made (EnumFits room) lowered_enum message_item_tree message_enum m.items
    (message_enums room (omega (arith, deep))) trees)
    (made_fit room some (names_of_fields (all_fields full m.items)) (real_oneofs m.items) (all_fields full m.items)
    (each_made (OneofFits room) (λ o. real_named o.name) message_item_tree message_oneof m.items
    (real_fits room some) trees) fields)

-- ---- files

scope_text : (o : Option PackageDescriptor) → IfSome o (λ p. IsName p.name) → IsUtf8 (file_scope o)
scope_text None named = IsUtf8-nil
scope_text (Some p) named = named.utf8

joined_text : (s : StringValue) → TreeFits (str_tree s) → IsUtf8 (joined s)
joined_text s all = IsUtf8-append s.first.value (flat_map literal_text s.rest) all.0
    (flat_text literal_text s.rest (listed string_tree s.rest all.1))

import_fits : (s : Statement) → TreeFits (statement_tree s) → AllByRecursion ImportFits (import_of s)
import_fits (statement.Import i) all = (joined_text i.path all.1.1.0, tt)
import_fits s all = tt

module _ (depth room : ℕ) (deep : depth + 2 ≤ room) where
  abbrev top : Grammar
  top = language.statement (language.message depth)

  messages_of : (scope : List ℕ) (s : Statement) → IsFitting top (statement_tree s)
      → AllByRecursion (λ m. MessageFits room (lowered_message scope m)) (file_message s)
  messages_of scope (statement.Message m) is = (
    by_items ItemNested MessageNested message_nested other_nested message_step m depth room deep
        (first_fits (second_fits (second_fits (second_fits is)))) scope,
    tt,
  )
  messages_of scope s is = tt

  enums_of : (s : Statement) → TreeFits (statement_tree s)
      → AllByRecursion (λ e. EnumFits room (lowered_enum e)) (file_enum s)
  enums_of (statement.Enum e) all = (enum_fits room (omega (arith, deep)) e all, tt)
  enums_of s all = tt

  services_of : (s : Statement) → TreeFits (statement_tree s)
      → AllByRecursion (λ v. ServiceFits room (lowered_service v)) (file_service s)
  services_of (statement.Service v) all = (service_fits room (omega (arith, deep)) v all, tt)
  services_of s all = tt

  lowered_fits : (name : List ℕ) → IsName name → (file : FileTree) → IsFitting (language.file depth) (file_tree file)
      → FileFits room (lowered name file)
  unfolding language.file
  lowered_fits name named file is =
      let ss = file.statements in
      let scope = package_scope (package_of ss) in
      let fitting = items_fit top statement_tree ss (both_fit is).1 in
      let trees = trees_of top statement_tree ss fitting in
      record {
        name = named;
        own = scope_text (package_of ss) (package_name ss trees);
        imports = each_given (λ s. TreeFits (statement_tree s)) ImportFits import_of ss import_fits trees;
        messages = each_map (MessageFits room) (lowered_message scope) (flat_map file_message ss)
            (each_given (λ s. IsFitting top (statement_tree s)) (λ m. MessageFits room (lowered_message scope m))
            file_message ss (messages_of scope) fitting);
        enums = each_made (EnumFits room) lowered_enum statement_tree file_enum ss enums_of trees;
        services = each_made (ServiceFits room) lowered_service statement_tree file_service ss services_of trees;
      }

pub source_described : (limits : Limits) (name text : List ℕ) (desc : FileDesc) → Describes limits name text desc
    → IsName name → (room : ℕ) → depth_of limits ≤ room → FileFits room desc
source_described limits name text desc (file, is, unbroken, made) named room deep =
    subst (FileFits room) (sym made) (lowered_fits _ room deep name named file (record {
      tree = is.2.tree;
      fits = source_fits limits text file is;
      few = omega (arith, source_few limits text file is, limits.file_bytes_bound);
    }))
