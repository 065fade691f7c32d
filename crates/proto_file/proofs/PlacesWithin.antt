-- The places of a descriptor are those of tokens: they lie within a text in which the tokens of the tree begin.
use Rattle.std.proofs.Common.{◌≡◌, sym, subst, arith, ℕ, ◌≤◌, Bool, false, cond, List, [], ◌∷◌, ◌++◌, map, ◌+◌, flat_map, Option, None, Some, slice_get, option_to_list, option_map}
use Rattle.std.specs.List.{AllByRecursion}
use Rattle.std.proofs.lemmas.List.Folds.{flat_map-map}
use Rattle.proto_tokens.specs.Token.{Spelled}
use Rattle.proto_base.specs.declared.place.Place.{Place}
use Rattle.proto_syntax.specs.Grammar.{Tree, Pair, Left, Right, flatten, Empty, Leaf}
use Rattle.proto_syntax.specs.Trees.{row, next_tree, optional, declarator_tree, setting_tree, separated_tree, options_tree, type_tree, field_statement_tree, oneof_item_tree, message_item_tree, enum_item_tree, enum_tree, message_tree, rpc_tree, service_item_tree, service_tree, statement_tree, member_tree, package_tree}
use Rattle.proto_tree.specs.declared.field.Declarator.{Declarator}
use Rattle.proto_tree.specs.declared.field.FieldType.{FieldType}
use Rattle.proto_tree.specs.declared.field.Label.{Label}
use Rattle.proto_tree.specs.declared.list.Separated.{Separated}
use Rattle.proto_tree.specs.declared.option.Options.{Options}
use Rattle.proto_tree.specs.declared.option.Setting.{Setting}
use Rattle.proto_desc.specs.declared.options.OptionDescriptor.{OptionDescriptor}
use Rattle.proto_desc.specs.declared.rules.Element.{Element}
use Rattle.proto_desc.specs.declared.rules.ValueKind.{ValueKind}
use Rattle.proto_lower.specs.Fields.{kind_of, described, label_of, is_optional, inner, member_at, fields_from, real_count}
use Rattle.proto_options.specs.Options.{bracketed, first_setting}
use Rattle.proto_tree.specs.Lists.{next_item, separated}
use Rattle.proto_lower.specs.Options.{option_by, option_under, options_of}
use Rattle.proto_desc.specs.Places.{kind_places, option_place, field_places, oneof_place, value_place, enum_places, places_step, message_places, method_places, service_places, package_places, import_place, places_of}
use Rattle.proto_desc.specs.Rules.{Rule, rules_of}
use Rattle.proto_syntax.proofs.Items.{item_field, item_map, item_oneof, item_enum, item_message}
use Rattle.proto_desc.specs.declared.field.FieldDesc.{FieldDesc}
use Rattle.proto_desc.specs.declared.file.FileDesc.{FileDesc}
use Rattle.proto_desc.specs.declared.field.FieldKind.{FieldKind}
use Rattle.proto_desc.specs.declared.field.FieldKind.TheVariants.{Named}
use Rattle.proto_desc.specs.declared.field.FieldLabel.{FieldLabel}
use Rattle.proto_desc.specs.declared.field.FieldLabel.TheVariants.{Optional, Repeated}
use Rattle.proto_desc.specs.declared.type_name.TypeReference.TheVariants.{Resolved}
use Rattle.proto_lower.specs.Names.{entry_name_of}
use Rattle.proto_tree.specs.declared.enumeration.Enum.{Enum}
use Rattle.proto_tree.specs.declared.file.FileTree.{FileTree}
use Rattle.proto_tree.specs.declared.message.Message.{Message, roll-Message, ind-Message}
use Rattle.proto_tree.specs.declared.message.MessageItem.{MessageItem, MessageItem-F, roll-MessageItem, map-MessageItem}
use Rattle.proto_tree.specs.declared.oneof.OneofField.{OneofField}
use Rattle.proto_tree.specs.declared.service.Rpc.{Rpc}
use Rattle.proto_tree.specs.declared.service.Service.{Service}
use Rattle.proto_desc.specs.declared.enumeration.EnumDesc.{EnumDesc}
use Rattle.proto_desc.specs.declared.message.MessageDesc.{MessageDesc, MessageDesc-F, roll-MessageDesc, out-MessageDesc, out-roll-MessageDesc, fold_out-MessageDesc, ind-MessageDesc, map-MessageDesc}
use Rattle.proto_desc.specs.declared.oneof.OneofDesc.{OneofDesc}
use Rattle.proto_desc.specs.declared.service.MethodDesc.{MethodDesc}
use Rattle.proto_desc.specs.declared.service.ServiceDesc.{ServiceDesc}
use Rattle.proto_options.specs.Statements.{file_message, file_enum, file_service, message_oneof, message_enum, oneof_field, enum_value, service_rpc, file_package}
use Rattle.proto_lower.specs.Enums.{value_desc, lowered_enum}
use Rattle.proto_lower.specs.Files.{package_of, package_scope, import_of, lowered, package_descriptor}
use Rattle.proto_lower.specs.Messages.{all_fields, nested_of, lowered_message}
use Rattle.proto_lower.specs.Oneofs.{real_named, real_oneofs, with_one, with_made}
use Rattle.proto_lower.specs.Services.{method_desc, lowered_service}
use Rattle.proto_lower.proofs.Nested.{nested_message}
use Rattle.proto_tree.specs.declared.file.Package.{Package}
use Rattle.proto_tree.specs.declared.message.MessageItem as message_item
use Rattle.proto_desc.specs.declared.rules.Element.TheVariants as element
use Rattle.proto_desc.specs.declared.type_name.TypeKind.TheVariants as type_kind
use Rattle.proto_tree.specs.declared.message.MessageItem.TheOpen as opened
use Rattle.proto_tree.specs.declared.message.MessageItem.TheVariants as of

-- all of these places are in a region, which is a set of places; one is
abbrev pub AreIn : (ℕ → Type 0) → List ℕ → Type 0
AreIn region places = AllByRecursion region places

abbrev pub IsIn : (ℕ → Type 0) → Place → Type 0
IsIn region p = region p.offset

-- the places up to n
abbrev pub upto : ℕ → ℕ → Type 0
upto n place = place ≤ n

-- each token begins in the region
abbrev pub BeginWithin : (ℕ → Type 0) → List Spelled → Type 0
BeginWithin region ts = AllByRecursion (λ t. region t.start) ts

-- so does each token of a tree, part by part
abbrev pub Within : (ℕ → Type 0) → Tree → Type 0
Within region (Leaf t) = region t.start
Within region Empty = Unit {0}
Within region (Pair x y) = Within region x × Within region y
Within region (Left x) = Within region x
Within region (Right x) = Within region x

-- ---- lists

pub both : {X : Type 0} (P : X → Type 0) (xs ys : List X) → AllByRecursion P xs → AllByRecursion P ys
    → AllByRecursion P (xs ++ ys)
both P [] ys left right = right
both P (x ∷ xs) ys left right = (left.0, both P xs ys left.1 right)

pub split : {X : Type 0} (P : X → Type 0) (xs ys : List X) → AllByRecursion P (xs ++ ys)
    → AllByRecursion P xs × AllByRecursion P ys
split P [] ys all = (tt, all)
split P (x ∷ xs) ys all = let r = split P xs ys all.1 in ((all.0, r.0), r.1)

pub every : {X : Type 0} (P : X → Type 0) (xs : List X) → ((x : X) → P x) → AllByRecursion P xs
every P [] h = tt
every P (x ∷ xs) h = (h x, every P xs h)

pub each_flat : {A B : Type 0} (P : B → Type 0) (g : A → List B) (xs : List A)
    → AllByRecursion (λ x. AllByRecursion P (g x)) xs
    → AllByRecursion P (flat_map g xs)
each_flat P g [] all = tt
each_flat P g (x ∷ xs) all = both P (g x) (flat_map g xs) all.0 (each_flat P g xs all.1)

pub each_map : {A B : Type 0} (P : B → Type 0) (g : A → B) (xs : List A) → AllByRecursion (λ x. P (g x)) xs
    → AllByRecursion P (map g xs)
each_map P g [] all = tt
each_map P g (x ∷ xs) all = (all.0, each_map P g xs all.1)

pub each_weaker : {A : Type 0} (P Q : A → Type 0) (xs : List A) → ((x : A) → P x → Q x) → AllByRecursion P xs
    → AllByRecursion Q xs
each_weaker P Q [] h all = tt
each_weaker P Q (x ∷ xs) h all = (h x all.0, each_weaker P Q xs h all.1)

pub each_marked : {X M : Type 0} (P : X → Type 0) (Q : M → Type 0) (mark : X → M) (xs : List X)
    → ((a : X) → P a → Q (mark a)) → AllByRecursion P xs → AllByRecursion Q (map mark xs)
each_marked P Q mark xs h all = each_map Q mark xs (each_weaker P (λ a. Q (mark a)) xs h all)

pub each_place : {X : Type 0} (region : ℕ → Type 0) (place : X → ℕ) (xs : List X) → AreIn region (map place xs)
    → AllByRecursion (λ x. region (place x)) xs
each_place region place [] all = tt
each_place region place (x ∷ xs) all = (all.0, each_place region place xs all.1)

pub each_places : {X : Type 0} (region : ℕ → Type 0) (places : X → List ℕ) (xs : List X)
    → AreIn region (flat_map places xs) → AllByRecursion (λ x. AreIn region (places x)) xs
each_places region places [] all = tt
each_places region places (x ∷ xs) all =
    let r = split region (places x) _ all in (r.0, each_places region places xs r.1)

pub each_given : {X Y : Type 0} (Q : X → Type 0) (P : Y → Type 0) (f : X → List Y) (xs : List X)
    → ((x : X) → Q x → AllByRecursion P (f x)) → AllByRecursion Q xs → AllByRecursion P (flat_map f xs)
each_given Q P f xs h all = each_flat P f xs (each_weaker Q (λ x. AllByRecursion P (f x)) xs h all)

-- where H holds of each too
pub each_held : {X Y : Type 0} (H Q : X → Type 0) (P : Y → Type 0) (f : X → List Y) (xs : List X)
    → ((x : X) → H x → Q x → AllByRecursion P (f x)) → AllByRecursion H xs → AllByRecursion Q xs
    → AllByRecursion P (flat_map f xs)
each_held H Q P f [] h held all = tt
each_held H Q P f (x ∷ xs) h held all =
    both P (f x) _ (h x held.0 all.0) (each_held H Q P f xs h held.1 all.1)

known : {X : Type 0} (P : X → Type 0) (xs : List ((x : X) × P x)) → AllByRecursion P (map (λ e. e.0) xs)
known P [] = tt
known P (x ∷ xs) = (x.1, known P xs)

-- ---- what holds of a message where it holds of those within it

-- not a message
abbrev pub IsOther : MessageItem → Type 0
IsOther (message_item.Message' boxed rows) = ⊥
IsOther i = Unit {0}

-- R of statements, and Q of messages
module _ (R : MessageItem → Type 0) (Q : Message → Type 0) (of_message : (m : Message) → Q m → R (of.Message m))
    (other : (i : MessageItem) → IsOther i → R i) where
  rolled : (y : MessageItem-F ((i : MessageItem) × R i) ((m : Message) × Q m))
      → R (roll-MessageItem (map-MessageItem ((i : MessageItem) × R i) ((m : Message) × Q m) MessageItem Message
      (λ e. e.0) (λ e. e.0) y))
  unfolding roll-MessageItem denote.Hole.Carrier.roll
  rolled (opened.Message m) = subst R (sym (of.rolls-Message m.0)) (of_message m.0 m.1)
  rolled y = other _ tt

  pub by_items : ((m : Message) → AllByRecursion R m.items → Q m) → (m : Message) → Q m
  by_items step = ind-Message R Q (λ x y e. subst (λ z. R (roll-MessageItem z)) e (rolled y))
      (λ x y e. subst (λ z. Q (roll-Message z)) e (step _ (known R y.items)))

pub by_nested : (Q : MessageDesc → Type 0)
    → ((m : MessageDesc) → AllByRecursion Q (out-MessageDesc m).nested → Q m) → (m : MessageDesc) → Q m
by_nested Q step = ind-MessageDesc Q (λ x y e. subst (λ z. Q (roll-MessageDesc z)) e
    (let m : MessageDesc-F MessageDesc = map-MessageDesc ((m : MessageDesc) × Q m) MessageDesc (λ e. e.0) y in
    step (roll-MessageDesc m) (rw (out-roll-MessageDesc m) (known Q y.nested))))

pub places_out : (m : MessageDesc) → message_places m
    ≡ (out-MessageDesc m).place.offset
    ∷ (flat_map field_places (out-MessageDesc m).fields ++ map oneof_place (out-MessageDesc m).oneofs
    ++ flat_map enum_places (out-MessageDesc m).enums ++ flat_map message_places (out-MessageDesc m).nested)
places_out m = simp flat_map-map at (fold_out-MessageDesc (List ℕ) places_step m)

module _ (region : ℕ → Type 0) where
  pub begun : (t : Tree) → BeginWithin region (flatten t) → Within region t
  begun (Leaf t) all = all.0
  begun Empty all = tt
  begun (Pair x y) all =
      let r = split (λ t. region t.start) (flatten x) (flatten y) all in (begun x r.0, begun y r.1)
  begun (Left x) all = begun x all
  begun (Right x) all = begun x all

  -- ---- the parts of trees

  -- of elements with these trees
  abbrev pub EachIn : {A : Type 0} → (A → Tree) → List A → Type 0
  EachIn f xs = AllByRecursion (λ x. Within region (f x)) xs

  -- each element gives these parts
  abbrev pub Gives : {A B : Type 0} → (A → Tree) → (A → List B) → (B → Tree) → Type 0
  Gives {A} f g t = (x : A) → Within region (f x) → EachIn t (g x)

  pub listed : {A : Type 0} (f : A → Tree) (xs : List A) → Within region (row f xs) → EachIn f xs
  listed f [] all = tt
  listed f (x ∷ xs) all = (all.0, listed f xs all.1)

  pub each_part : {A B : Type 0} (f : A → Tree) (g : A → List B) (t : B → Tree) (xs : List A) → Gives f g t
      → EachIn f xs → EachIn t (flat_map g xs)
  each_part f g t xs gives all = each_given (λ x. Within region (f x)) (λ y. Within region (t y)) g xs gives all

  pub separated_of : {A : Type 0} (f : A → Tree) (s : Separated A) → Within region (separated_tree f s)
      → EachIn f (separated s)
  separated_of f s all = (
    all.0,
    each_marked (λ x. Within region (next_tree f x)) (λ y. Within region (f y)) next_item s.rest (λ x w. w.1)
        (listed (next_tree f) s.rest all.1),
  )

  pub bracketed_of : (o : Option Options) → Within region (optional options_tree o)
      → EachIn setting_tree (bracketed o)
  bracketed_of o all = grind (arith, separated_of)

  -- what the parts of elements are lowered to, and the places of that
  each_made : {A B C : Type 0} (P : C → Type 0) (lower : B → C) (f : A → Tree) (g : A → List B) (xs : List A)
      → ((x : A) → Within region (f x) → AllByRecursion (λ y. P (lower y)) (g x)) → EachIn f xs
      → AllByRecursion P (map lower (flat_map g xs))
  each_made P lower f g xs h all = each_map P lower (flat_map g xs)
      (each_given (λ x. Within region (f x)) (λ y. P (lower y)) g xs h all)

  -- ---- options

  abbrev OptionWithin : OptionDescriptor → Type 0
  OptionWithin o = region (option_place o)

  option_within : (number : Option ℕ) (kind : ValueKind) (word : List ℕ) (ss : List Setting) → EachIn setting_tree ss
      → AllByRecursion OptionWithin (option_to_list (option_by number kind (first_setting word ss)))
  option_within number kind word [] all = grind arith
  option_within number kind word (s ∷ ss) all = grind (arith, option_within number kind word ss all.1)

  options_within : (e : Element) (ss : List Setting) → EachIn setting_tree ss
      → AllByRecursion OptionWithin (options_of e ss)
  unfolding options_of
  options_within e ss all = each_flat OptionWithin (option_under ss) (rules_of e)
      (every (λ r. AllByRecursion OptionWithin (option_under ss r)) (rules_of e)
      (λ (r : Rule). option_within r.number r.kind r.word ss all))

  -- ---- types

  kind_within : (t : FieldType) → Within region (type_tree t) → AreIn region (kind_places (kind_of t))
  kind_within t all = grind arith

  -- ---- fields

  abbrev pub FieldWithin : FieldDesc → Type 0
  FieldWithin f = AreIn region (field_places f)

  described_within : (d : Declarator) (label : FieldLabel) (kind : FieldKind) (oneof : Option ℕ) (is_optional : Bool)
      → Within region (declarator_tree d) → AreIn region (kind_places kind)
      → FieldWithin (described d label kind oneof is_optional)
  described_within d label kind oneof is_optional all of_kind =
      grind (arith, both region, bracketed_of, each_map region option_place, options_within element.Field)

  -- a field as a statement, whichever rule has it
  pub statement_field : (label : Option Label) (t : FieldType) (d : Declarator)
      → Within region (field_statement_tree label t d)
      → AreIn region (kind_places (kind_of t)) × Within region (declarator_tree d)
  statement_field label t d all = grind (arith, kind_within)

  member_within : (real : ℕ) (f : OneofField) → Within region (member_tree f) → FieldWithin (member_at real f)
  member_within real f w = described_within f.declarator Optional (kind_of f.field_type) (Some real) false w.1
      (kind_within f.field_type w.0)

  fields_within : (full : List ℕ) (real made : ℕ) (is : List MessageItem) → EachIn message_item_tree is
      → AllByRecursion FieldWithin (fields_from full real made is)
  fields_within full real made [] all = tt
  fields_within full real made (message_item.Field f ∷ is) all =
      let parts = statement_field f.label f.field_type f.declarator (rw item_field at all.0) in (
        described_within f.declarator (label_of f.label) (kind_of f.field_type)
            (cond (is_optional f.label) (Some made) None) (is_optional f.label) parts.1 parts.0,
        fields_within full real _ is all.1,
      )
  fields_within full real made (message_item.Map m ∷ is) all =
      let entry = Named (Resolved type_kind.Message (inner full (entry_name_of m.declarator.name.text))) in (
        described_within m.declarator Repeated entry None false (rw item_map at all.0).1.1 tt,
        fields_within full real made is all.1,
      )
  fields_within full real made (message_item.Oneof o ∷ is) all =
      both FieldWithin (map (member_at real) (flat_map oneof_field o.items)) (fields_from full (real + 1) made is)
      (each_made FieldWithin (member_at real) oneof_item_tree oneof_field _
      (λ i w. grind (arith, member_within real))
      (listed oneof_item_tree o.items (rw item_oneof at all.0).1.1.1.0))
      (fields_within full (real + 1) made is all.1)
  fields_within full real made (i ∷ is) all = fields_within full real made is all.1

  -- ---- oneofs and enums

  abbrev OneofWithin : OneofDesc → Type 0
  OneofWithin o = region (oneof_place o)

  made_within : (names : List (List ℕ)) (so_far : List OneofDesc) (fs : List FieldDesc)
      → AllByRecursion OneofWithin so_far → AllByRecursion FieldWithin fs
      → AllByRecursion OneofWithin (with_made names so_far fs)
  made_within names so_far [] made fields = made
  made_within names so_far (f ∷ fs) made fields =
      made_within names (with_one names so_far f f.proto3_optional) fs (grind (arith, both OneofWithin)) fields.1

  abbrev pub EnumWithin : EnumDesc → Type 0
  EnumWithin e = AreIn region (enum_places e)

  enum_within : (e : Enum) → Within region (enum_tree e) → EnumWithin (lowered_enum e)
  enum_within e all = (
    all.1.0,
    each_map region value_place (map value_desc (flat_map enum_value e.items))
        (each_made (λ v. region (value_place v)) value_desc enum_item_tree enum_value _ (λ i w. grind arith)
        (listed enum_item_tree e.items all.1.1.1.0)),
  )

  -- ---- messages

  abbrev pub DescWithin : MessageDesc → Type 0
  DescWithin m = AreIn region (message_places m)

  desc_within : (m : MessageDesc-F MessageDesc) → region (m.place.offset) → AllByRecursion FieldWithin m.fields
      → AllByRecursion OneofWithin m.oneofs → AllByRecursion EnumWithin m.enums
      → AllByRecursion DescWithin m.nested → DescWithin (roll-MessageDesc m)
  desc_within m place fields oneofs enums nested = rw (places_out, out-roll-MessageDesc) (
    place,
    both region _ _
        (both region _ _
        (both region _ _ (each_flat region field_places m.fields fields)
        (each_map region oneof_place m.oneofs oneofs)) (each_flat region enum_places m.enums enums))
        (each_flat region message_places m.nested nested),
  )

  -- of a message, and of a statement
  abbrev MessageNested : Message → Type 0
  MessageNested m = Within region (message_tree m) → (scope : List ℕ) → DescWithin (lowered_message scope m)

  abbrev ItemNested : MessageItem → Type 0
  ItemNested i = Within region (message_item_tree i) → (full : List ℕ) → AllByRecursion DescWithin (nested_of full i)

  message_nested : (m : Message) → MessageNested m → ItemNested (of.Message m)
  message_nested m held all full = rw nested_message (held (rw item_message at all) full, tt)

  other_nested : (i : MessageItem) → IsOther i → ItemNested i
  other_nested (message_item.Message' boxed rows) never all full = absurd never
  other_nested (message_item.Map m) is all full =
      let tree = rw item_map at all in
      let value = both region (kind_places (kind_of m.map_type.value)) []
      (kind_within m.map_type.value tree.1.0.1.1.1.0) tt in
      (desc_within _ tree.1.1.0 ((tree.1.1.0, tt), ((tree.1.1.0, value), tt)) tt tt tt, tt)
  other_nested i is all full = tt

  message_step : (m : Message) → AllByRecursion ItemNested m.items → MessageNested m
  message_step m held all scope =
      let full = inner scope m.name.text in
      let items = listed message_item_tree m.items all.1.1.1.0 in
      let fields = fields_within full 0 (real_count m.items) m.items items in
      desc_within _ all.1.0 fields
      (made_within _ (real_oneofs m.items) (all_fields full m.items)
      (each_made OneofWithin (λ o. real_named o.name) message_item_tree message_oneof _
      (λ i w. grind (arith, item_oneof)) items) fields)
      (each_made EnumWithin lowered_enum message_item_tree message_enum _
      (λ i w. grind (arith, item_enum, enum_within)) items)
      (each_held ItemNested (λ i. Within region (message_item_tree i)) DescWithin (nested_of full) m.items
      (λ i h w. h w full) held items)

  -- ---- services

  abbrev pub MethodWithin : MethodDesc → Type 0
  MethodWithin m = AreIn region (method_places m)

  rpc_within : (r : Rpc) → Within region (rpc_tree r) → MethodWithin (method_desc r)
  rpc_within r all = grind (arith, both region)

  abbrev pub ServiceWithin : ServiceDesc → Type 0
  ServiceWithin s = AreIn region (service_places s)

  service_within : (s : Service) → Within region (service_tree s) → ServiceWithin (lowered_service s)
  service_within s all = (
    all.1.0,
    each_flat region method_places _ (each_made MethodWithin method_desc service_item_tree service_rpc _
        (λ i w. grind (arith, rpc_within)) (listed service_item_tree s.items all.1.1.1.0)),
  )

  -- ---- files

  package_within : (ps : List Package) → EachIn package_tree ps
      → AreIn region (package_places (option_map package_descriptor (slice_get ps 0)))
  package_within [] all = tt
  package_within (p ∷ ps) all = (all.0.1.0.0, tt)

  -- each part of a descriptor lies in the region
  pub record FileParts (d : FileDesc) : Type 0 where
    pub own : AreIn region (package_places d.«package»)
    pub imports : AllByRecursion (λ i. region (import_place i)) d.imports
    pub messages : AllByRecursion DescWithin d.messages
    pub enums : AllByRecursion EnumWithin d.enums
    pub services : AllByRecursion ServiceWithin d.services

  pub lowered_parts : (name : List ℕ) (file : FileTree) → Within region (row statement_tree file.statements)
      → FileParts (lowered name file)
  lowered_parts name file all =
      let scope = package_scope (package_of file.statements) in
      let ss = listed statement_tree file.statements all in
      record {
        own = package_within _ (each_part statement_tree file_package package_tree _ (λ s w. grind arith) ss);
        imports = each_given (λ s. Within region (statement_tree s)) (λ i. region (import_place i)) import_of
            file.statements (λ s w. grind arith) ss;
        messages = each_made DescWithin (lowered_message scope) statement_tree file_message _
            (λ s w. grind (arith, by_items ItemNested MessageNested message_nested other_nested message_step)) ss;
        enums = each_made EnumWithin lowered_enum statement_tree file_enum _ (λ s w. grind (arith, enum_within)) ss;
        services = each_made ServiceWithin lowered_service statement_tree file_service _
            (λ s w. grind (arith, service_within)) ss;
      }

  pub lowered_within : (name : List ℕ) (file : FileTree) → Within region (row statement_tree file.statements)
      → AreIn region (places_of (lowered name file))
  lowered_within name file all =
      let at = lowered_parts name file all in
      both region _ _
      (both region _ _
      (both region _ _
      (both region _ _ at.own (each_map region import_place _ at.imports))
      (each_flat region message_places _ at.messages))
      (each_flat region enum_places _ at.enums))
      (each_flat region service_places _ at.services)
