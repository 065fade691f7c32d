-- The spots of a file's broken rules lie within a text in which the tokens of its tree begin.
use Rattle.std.proofs.Common.{arith, ℕ, List, map, inl, inr, flat_map}
use Rattle.std.specs.List.{AllByRecursion}
use Rattle.proto_syntax.specs.Grammar.{Tree}
use Rattle.proto_syntax.specs.Trees.{str_tree, number_tree, signed_tree, setting_tree, range_tree, reserved_items_tree, declarator_tree, oneof_item_tree, oneof_tree, enum_item_tree, enum_tree, rpc_body_tree, rpc_item_tree, service_item_tree, service_tree, member_tree, message_item_tree, rpc_tree, value_tree, message_tree, package_tree, statement_tree, file_tree}
use Rattle.proto_tree.specs.declared.enumeration.Enum.{Enum}
use Rattle.proto_tree.specs.declared.enumeration.EnumItem.{EnumItem}
use Rattle.proto_tree.specs.declared.enumeration.EnumValue.{EnumValue}
use Rattle.proto_tree.specs.declared.message.MessageItem.{MessageItem}
use Rattle.proto_tree.specs.declared.oneof.Oneof.{Oneof}
use Rattle.proto_tree.specs.declared.option.Setting.{Setting}
use Rattle.proto_tree.specs.declared.reserved.ReservedItems.{ReservedItems}
use Rattle.proto_tree.specs.declared.service.Service.{Service}
use Rattle.proto_syntax.proofs.Items.{item_field, item_map, item_oneof, item_enum, item_option, item_reserved, item_message}
use Rattle.proto_desc.specs.declared.rules.Element.{Element}
use Rattle.proto_options.specs.Options.{bracketed, message_setting, enum_setting, service_setting, rpc_setting, oneof_setting, file_setting}
use Rattle.proto_options.specs.Statements.{oneof_field, message_oneof, message_enum, service_rpc, enum_value, rpc_items, message_reserved, enum_reserved, ranges_in, names_in, file_message, file_enum, file_service, file_package}
use Rattle.proto_file.proofs.PlacesWithin.{Within, upto, EachIn, Gives, bracketed_of, each_marked, each_part, listed, separated_of, statement_field, each_weaker, both, each_given, each_map, each_place, each_places, EnumWithin, places_out, FileParts, lowered_parts, FieldWithin, DescWithin, MethodWithin, ServiceWithin, by_items, by_nested, each_held, split}
use Rattle.proto_checks.specs.Elements.{OneofBreaks, ValueBreaks, EnumBreaks, BodyBreaks, RpcBreaks, ServiceBreaks, MessageBreaks, bodies, bodies_of}
use Rattle.proto_checks.specs.Gathered.{literal, signed_number, field_number, field_numbers, value_numbers, marked_range, bounds_of, reserved_name}
use Rattle.proto_checks.specs.Numbers.{ReservedRangesBreak, FieldNumbersBreak, EnumNumbersBreak}
use Rattle.proto_checks.specs.Options.{name_place, SettingBreaks, SettingsBreak, OptionedField, optioned_in_oneof, optioned_fields, FieldOptionsBreak, IsWronglyPacked, IsWronglyTyped}
use Rattle.proto_checks.specs.Marks.{IsBackwards, TextTwice}
use Rattle.proto_checks.specs.declared.marks.MarkedNumber.{MarkedNumber}
use Rattle.proto_checks.specs.declared.marks.MarkedRange.{MarkedRange}
use Rattle.proto_base.specs.declared.spot.Spot.{Spot}
use Rattle.proto_file.proofs.Spots.{Placed, SpotWithin, at_spot, standing, each_within, later_within, NumbersWithin, number_twice, text_twice, number_at, name_used}
use Rattle.proto_base.specs.Sets.{Each}
use Rattle.proto_base.specs.declared.kind.Kind.{Kind}
use Rattle.proto_tree.specs.declared.literal.StringValue.{StringValue}
use Rattle.proto_base.specs.declared.limits.Limits.{Limits}
use Rattle.proto_tree.specs.declared.file.FileTree.{FileTree}
use Rattle.proto_tree.specs.declared.file.Package.{Package}
use Rattle.proto_tree.specs.declared.file.Statement.{Statement}
use Rattle.proto_tree.specs.declared.message.Message.{Message}
use Rattle.proto_desc.specs.DeclaredNames.{Declared, scoped, declared_field, declared_oneof, declared_value, declared_by_enum, declared_by_message, declared_method, declared_by_service, file_scope, declared_by}
use Rattle.proto_lower.specs.Files.{lowered}
use Rattle.proto_desc.specs.Places.{field_places, oneof_place, value_place, enum_places, message_places, method_places}
use Rattle.proto_desc.specs.declared.enumeration.EnumDesc.{EnumDesc}
use Rattle.proto_desc.specs.declared.field.FieldDesc.{FieldDesc}
use Rattle.proto_desc.specs.declared.file.FileDesc.{FileDesc}
use Rattle.proto_desc.specs.declared.message.MessageDesc.{MessageDesc, out-MessageDesc}
use Rattle.proto_desc.specs.declared.service.MethodDesc.{MethodDesc}
use Rattle.proto_desc.specs.declared.service.ServiceDesc.{ServiceDesc}
use Rattle.proto_checks.specs.Checks.{FileBreaks, HeadBreaks, ElementsBreak, NamesBreak, LengthsBreak, import_mark, IsTooLong, PackageTooLong, json_mark, field_mark, value_mark, EnumNamesBreak, MessageNames, MessageNamesBreak, names_of}
use Rattle.proto_checks.proofs.Items.{nested_bodies}
use Rattle.proto_checks.proofs.Named.{names_out}
use Rattle.proto_desc.proofs.Declared.{declared_out, scope_in}
use Rattle.proto_base.specs.declared.kind.Kind.TheVariants as kind
use Rattle.proto_tree.specs.declared.message.MessageItem as message_item
use Rattle.proto_desc.specs.declared.rules.Element.TheVariants as element
use Rattle.proto_tree.specs.declared.message.MessageItem.TheVariants as of

module _ (n : ℕ) where
  -- ---- options

  settings_break : (e : Element) (ss : List Setting) (x : Spot) → EachIn (upto n) setting_tree ss
      → SettingsBreak e ss x → SpotWithin n x
  settings_break e ss x all (inl b) = each_within (λ s. Within (upto n) (setting_tree s)) (SettingBreaks e) n ss x all
      (λ s w c. grind arith) b
  settings_break e ss x all (inr b) = later_within (λ s. Within (upto n) (setting_tree s)) _ name_place kind.OptionTwice
      n ss x (λ s w. w.0.0) all b

  -- the settings that statements make
  pub statements_break : {A : Type 0} (f : A → Tree) (g : A → List Setting) (e : Element) (xs : List A) (x : Spot)
      → Gives (upto n) f g setting_tree → EachIn (upto n) f xs → SettingsBreak e (flat_map g xs) x → SpotWithin n x
  statements_break f g e xs x gives all b =
      settings_break e (flat_map g xs) x (each_part (upto n) f _ setting_tree _ gives all) b

  -- what each part breaks
  pub parts_break : {A B : Type 0} (f : A → Tree) (g : A → List B) (t : B → Tree) (S : B → Spot → Type 0)
      (xs : List A) (x : Spot) → Gives (upto n) f g t → ((b : B) → Within (upto n) (t b) → S b x → SpotWithin n x)
      → EachIn (upto n) f xs → Each (flat_map g xs) S x → SpotWithin n x
  parts_break f g t S xs x gives h all = each_within (λ y. Within (upto n) (t y)) S n (flat_map g xs) x
      (each_part (upto n) f g t _ gives all) h

  -- ---- fields

  optioned_breaks : (x : Spot) (f : OptionedField) → Within (upto n) (declarator_tree f.declarator)
      → FieldOptionsBreak f x → SpotWithin n x
  optioned_breaks x f all b = by (bracketed_of (upto n) f.declarator.options all.1.1.1.0) b
    where
      by : EachIn (upto n) setting_tree (bracketed f.declarator.options) → FieldOptionsBreak f x → SpotWithin n x
      by ss (inl (inl b)) = each_within (λ s. Within (upto n) (setting_tree s)) (IsWronglyPacked f.can_be_packed) n _ x
          ss (λ s w c. grind arith) b
      by ss (inl (inr b)) = each_within (λ s. Within (upto n) (setting_tree s)) (IsWronglyTyped f.is_wide_integer) n _
          x ss (λ s w c. grind arith) b
      by ss (inr b) = settings_break element.Field _ x ss b

  abbrev declarator_of : OptionedField → Tree
  declarator_of f = declarator_tree f.declarator

  message_fields : Gives (upto n) message_item_tree optioned_fields declarator_of
  message_fields (message_item.Oneof o) all =
      each_marked (λ f. Within (upto n) (member_tree f)) (λ f. Within (upto n) (declarator_of f)) optioned_in_oneof
      (flat_map oneof_field o.items) (λ f w. w.1)
      (each_part (upto n) oneof_item_tree oneof_field member_tree _ (λ s w. grind arith)
      (listed (upto n) oneof_item_tree o.items (rw item_oneof at all).1.1.1.0))
  message_fields i all = grind (arith, statement_field (upto n), item_field, item_map)

  -- ---- what is reserved

  -- reserved ranges, beside the numbers in use
  ranges_break : {N : Type 0} (f : N → Tree) (mark : N → MarkedNumber) (low high : ℕ) (k : Kind)
      (is : List (ReservedItems N)) (used : List MarkedNumber) (x : Spot)
      → ((y : N) → Within (upto n) (f y) → Placed n (mark y).place) → EachIn (upto n) (reserved_items_tree f) is
      → NumbersWithin n used → ReservedRangesBreak mark low high k (flat_map ranges_in is) used x → SpotWithin n x
  ranges_break f mark low high k is used x at all at_used b = by b
    where
      ranges : EachIn (upto n) (range_tree f) (flat_map ranges_in is)
      ranges = each_part (upto n) (reserved_items_tree f) ranges_in (range_tree f) _
          (λ i w. grind (arith, separated_of (upto n) (range_tree f))) all

      marked : AllByRecursion (λ (r : MarkedRange). Placed n r.place)
          (map (marked_range mark high) (flat_map ranges_in is))
      marked = each_marked (λ r. Within (upto n) (range_tree f r)) (λ (r : MarkedRange). Placed n r.place)
          (marked_range mark high) _ (λ r w. at r.start w.0) ranges

      by : ReservedRangesBreak mark low high k (flat_map ranges_in is) used x → SpotWithin n x
      by (inl b) = number_at _ _ n _ x
          (each_marked (λ y. Within (upto n) (f y)) (λ (m : MarkedNumber). Placed n m.place) mark _ at
          (each_part (upto n) (range_tree f) bounds_of f _ (λ r w. grind arith) ranges)) b
      by (inr (inl (inl b))) = number_at _ _ n _ x at_used b
      by (inr (inl (inr b))) =
          later_within (λ (r : MarkedRange). Placed n r.place) _ (λ (r : MarkedRange). r.place) _ n _ x
          (λ r w. w) marked b
      by (inr (inr b)) =
          each_within (λ (r : MarkedRange). Placed n r.place) IsBackwards n _ x marked (λ r w s. grind arith) b

  reserved_break : {N : Type 0} (f : N → Tree) (is : List (ReservedItems N)) (x : Spot)
      → EachIn (upto n) (reserved_items_tree f) is
      → TextTwice kind.ReservedNameTwice (map reserved_name (flat_map names_in is)) x → SpotWithin n x
  reserved_break f is x all b = text_twice n _ reserved_name (flat_map names_in is) x
      (each_weaker (λ s. Within (upto n) (str_tree s)) (λ (s : StringValue). Placed n s.first.span.start)
      (flat_map names_in is) (λ s w. w.0)
      (each_part (upto n) (reserved_items_tree f) names_in str_tree _
      (λ i w. grind (arith, separated_of (upto n) str_tree)) all)) b

  field_numbers_break : (is : List MessageItem) (x : Spot) → EachIn (upto n) message_item_tree is
      → FieldNumbersBreak is x → SpotWithin n x
  field_numbers_break is x all b = by b
    where
      numbers : NumbersWithin n (field_numbers is)
      numbers = each_marked (λ f. Within (upto n) (declarator_of f))
          (λ (m : MarkedNumber). Placed n m.place) field_number
          (flat_map optioned_fields is) (λ f w. w.1.1.0)
          (each_part (upto n) message_item_tree _ declarator_of _ message_fields all)

      reserved : EachIn (upto n) (reserved_items_tree number_tree) (flat_map message_reserved is)
      reserved = each_part (upto n) message_item_tree message_reserved (reserved_items_tree number_tree) _
          (λ i w. grind (arith, item_reserved)) all

      by : FieldNumbersBreak is x → SpotWithin n x
      by (inl (inl (inl b))) = number_at _ _ n _ x numbers b
      by (inl (inl (inr b))) = number_twice n _ _ x numbers b
      by (inl (inr b)) = ranges_break number_tree literal _ _ _ _ _ x (λ y w. w) reserved numbers b
      by (inr b) = reserved_break number_tree _ x reserved b

  enum_numbers_break : (is : List EnumItem) (x : Spot) → EachIn (upto n) enum_item_tree is → EnumNumbersBreak is x
      → SpotWithin n x
  enum_numbers_break is x all b = by b
    where
      numbers : NumbersWithin n (value_numbers is)
      numbers = each_marked (λ v. Within (upto n) (value_tree v)) (λ (m : MarkedNumber). Placed n m.place)
          (λ (v : EnumValue). signed_number v.number) (flat_map enum_value is)
          (λ (v : EnumValue) w. grind arith)
          (each_part (upto n) enum_item_tree enum_value value_tree _ (λ s w. grind arith) all)

      reserved : EachIn (upto n) (reserved_items_tree signed_tree) (flat_map enum_reserved is)
      reserved = each_part (upto n) enum_item_tree enum_reserved (reserved_items_tree signed_tree) _
          (λ s w. grind arith) all

      by : EnumNumbersBreak is x → SpotWithin n x
      by (inl (inl (inl (inl b)))) =
          at_spot n b.0.place _ x (standing (λ (m : MarkedNumber). Placed n m.place) _ 0 b.0 numbers b.1) b.3
      by (inl (inl (inl (inr b)))) = number_at _ _ n _ x numbers b
      by (inl (inl (inr b))) = number_twice n _ _ x numbers b.1
      by (inl (inr b)) =
          ranges_break signed_tree signed_number _ _ _ _ _ x (λ y w. grind arith) reserved numbers b
      by (inr b) = reserved_break signed_tree _ x reserved b

  -- ---- elements

  pub enum_breaks : (x : Spot) (e : Enum) → Within (upto n) (enum_tree e) → EnumBreaks e x → SpotWithin n x
  enum_breaks x e all b =
      let items = listed (upto n) enum_item_tree e.items all.1.1.1.0 in
      by items all.1.0 b
    where
      by : EachIn (upto n) enum_item_tree e.items → Placed n e.name.span.start → EnumBreaks e x → SpotWithin n x
      by items name (inl (inl (inl b))) = grind arith
      by items name (inl (inl (inr b))) = enum_numbers_break e.items x items b
      by items name (inl (inr b)) =
          statements_break enum_item_tree enum_setting element.Enum _ x (λ s w. grind arith) items b
      by items name (inr b) = parts_break enum_item_tree enum_value value_tree ValueBreaks _ x (λ s w. grind arith)
          (λ v w. settings_break element.EnumValue _ x (bracketed_of (upto n) v.options w.1.1.1.0)) items b

  oneof_breaks : (x : Spot) (o : Oneof) → Within (upto n) (oneof_tree o) → OneofBreaks o x → SpotWithin n x
  oneof_breaks x o all (inl b) = at_spot n o.name.span.start _ x all.1.0 b.1
  oneof_breaks x o all (inr b) = statements_break oneof_item_tree oneof_setting element.Oneof _ x (λ s w. grind arith)
      (listed (upto n) oneof_item_tree o.items all.1.1.1.0) b

  pub body_breaks : (x : Spot) (is : List MessageItem) → EachIn (upto n) message_item_tree is → BodyBreaks is x
      → SpotWithin n x
  body_breaks x is all (inl (inl b)) = field_numbers_break is x all b
  body_breaks x is all (inl (inr b)) =
      statements_break message_item_tree message_setting element.Message _ x (λ i w. grind (arith, item_option)) all b
  body_breaks x is all (inr (inl (inl b))) = parts_break message_item_tree optioned_fields declarator_of
      FieldOptionsBreak _ x message_fields (optioned_breaks x) all b
  body_breaks x is all (inr (inl (inr b))) = parts_break message_item_tree message_oneof oneof_tree OneofBreaks _ x
      (λ i w. grind (arith, item_oneof)) (oneof_breaks x) all b
  body_breaks x is all (inr (inr b)) = parts_break message_item_tree message_enum enum_tree EnumBreaks _ x
      (λ i w. grind (arith, item_enum)) (enum_breaks x) all b

  -- ---- services

  pub service_breaks : (x : Spot) (s : Service) → Within (upto n) (service_tree s) → ServiceBreaks s x → SpotWithin n x
  service_breaks x s all (inl b) =
      statements_break service_item_tree service_setting element.Service _ x (λ s w. grind arith)
      (listed (upto n) service_item_tree s.items all.1.1.1.0) b
  service_breaks x s all (inr b) = parts_break service_item_tree service_rpc rpc_tree RpcBreaks _ x (λ s w. grind arith)
      (λ r w. statements_break rpc_item_tree rpc_setting element.Method (rpc_items r.body) x (λ s w. grind arith)
      (let w : Within (upto n) (rpc_body_tree r.body) = w.1.1.1.1.1 in grind (arith, listed)))
      (listed (upto n) service_item_tree s.items all.1.1.1.0) b

  -- ---- the statements of messages

  abbrev BodiesWithin : List (List MessageItem) → Type 0
  BodiesWithin bs = AllByRecursion (EachIn (upto n) message_item_tree) bs

  abbrev MessageBodies : Message → Type 0
  MessageBodies m = Within (upto n) (message_tree m) → BodiesWithin (bodies m.items)

  abbrev ItemBodies : MessageItem → Type 0
  ItemBodies i = Within (upto n) (message_item_tree i) → BodiesWithin (bodies_of i)

  message_bodies : (m : Message) → MessageBodies m → ItemBodies (of.Message m)
  message_bodies m held all = rw nested_bodies (held (rw item_message at all))

  bodies_step : (m : Message) → AllByRecursion ItemBodies m.items → MessageBodies m
  bodies_step m held all =
      let items = listed (upto n) message_item_tree m.items all.1.1.1.0 in (
        items,
        each_held ItemBodies (λ i. Within (upto n) (message_item_tree i)) (EachIn (upto n) message_item_tree) bodies_of
            m.items (λ i h w. h w) held items,
      )

  -- ---- the names of a descriptor

  enum_names_break : (x : Spot) (e : EnumDesc) → EnumWithin (upto n) e → EnumNamesBreak e x → SpotWithin n x
  enum_names_break x e all b =
      name_used n e.reserved_names value_mark e.values x (each_place (upto n) value_place e.values all.1) b

  abbrev NamesAt : MessageNames → Type 0
  NamesAt m = AllByRecursion (λ (f : FieldDesc). Placed n f.place) m.fields
      × AllByRecursion (EnumWithin (upto n)) m.enums

  names_break : (x : Spot) (m : MessageNames) → NamesAt m → MessageNamesBreak m x → SpotWithin n x
  names_break x m all (inl (inl b)) = text_twice n _ json_mark m.fields x all.0 b
  names_break x m all (inl (inr b)) = name_used n m.reserved_names field_mark m.fields x all.0 b
  names_break x m all (inr b) =
      each_within (EnumWithin (upto n)) EnumNamesBreak n m.enums x all.1 (enum_names_break x) b

  abbrev DeclaredAt : Declared → Type 0
  DeclaredAt d = Placed n d.place

  enum_declares : (scope : List ℕ) (e : EnumDesc) → EnumWithin (upto n) e
      → AllByRecursion DeclaredAt (declared_by_enum scope e)
  enum_declares scope e all = (
    all.0,
    each_map DeclaredAt (declared_value scope) e.values (each_place (upto n) value_place e.values all.1),
  )

  -- the names of a message and what it declares
  abbrev DescAt : MessageDesc → Type 0
  DescAt m = DescWithin (upto n) m → AllByRecursion NamesAt (names_of m)
      × ((scope : List ℕ) → AllByRecursion DeclaredAt (declared_by_message m scope))

  desc_step : (m : MessageDesc) → AllByRecursion DescAt (out-MessageDesc m).nested → DescAt m
  desc_step m held all =
      let o = out-MessageDesc m in
      let places = rw places_out at all in
      let (upto_enums, at_nested) = split (upto n) _ _ places.1 in
      let (upto_oneofs, at_enums) = split (upto n) _ _ upto_enums in
      let (at_fields, oneofs) = split (upto n) _ _ upto_oneofs in
      let fields = each_weaker (FieldWithin (upto n)) (λ (f : FieldDesc). Placed n f.place) o.fields
      (λ f w. w.0) (each_places (upto n) field_places o.fields at_fields) in
      let enums = each_places (upto n) enum_places o.enums at_enums in
      let nested = each_places (upto n) message_places o.nested at_nested in (
        rw names_out (
          (fields, enums),
          each_held DescAt (DescWithin (upto n)) NamesAt names_of o.nested (λ k h w. (h w).0) held nested,
        ),
        λ scope. rw (declared_out m scope) (
          places.0,
          both DeclaredAt _ _
              (both DeclaredAt _ _
              (both DeclaredAt _ _ (each_map DeclaredAt (declared_field (scope_in m scope)) o.fields fields)
              (each_map DeclaredAt (declared_oneof (scope_in m scope)) o.oneofs
              (each_place (upto n) oneof_place o.oneofs oneofs)))
              (each_given (EnumWithin (upto n)) DeclaredAt (declared_by_enum (scope_in m scope)) o.enums
              (enum_declares (scope_in m scope)) enums))
              (each_held DescAt (DescWithin (upto n)) DeclaredAt (λ k. declared_by_message k (scope_in m scope))
              o.nested (λ k h w. (h w).1 (scope_in m scope)) held nested),
        ),
      )

  service_declares : (scope : List ℕ) (s : ServiceDesc) → ServiceWithin (upto n) s
      → AllByRecursion DeclaredAt (declared_by_service scope s)
  service_declares scope s all = (
    all.0,
    each_map DeclaredAt (declared_method (scoped scope s.name)) s.methods
        (each_weaker (MethodWithin (upto n)) (λ (m : MethodDesc). Placed n m.place) s.methods
        (λ m w. w.0) (each_places (upto n) method_places s.methods all.1)),
  )

  -- ---- files

  declared_at : (d : FileDesc) → FileParts (upto n) d → AllByRecursion DeclaredAt (declared_by d)
  declared_at d at =
      let scope = file_scope d.«package» in
      both DeclaredAt _ _
      (both DeclaredAt _ _
      (each_given (DescWithin (upto n)) DeclaredAt (λ m. declared_by_message m scope) d.messages
      (λ m w. (by_nested DescAt desc_step m w).1 scope) at.messages)
      (each_given (EnumWithin (upto n)) DeclaredAt (declared_by_enum scope) d.enums (enum_declares scope) at.enums))
      (each_given (ServiceWithin (upto n)) DeclaredAt (declared_by_service scope) d.services
      (service_declares scope) at.services)

  head_breaks : (tree : FileTree) (d : FileDesc) (x : Spot) → Within (upto n) (file_tree tree) → FileParts (upto n) d
      → HeadBreaks tree d x → SpotWithin n x
  head_breaks tree d x all at (inl (inl (inl b))) =
      at_spot n tree.syntax.version.first.span.start _ x all.0.1.1.0.0 b.1
  head_breaks tree d x all at (inl (inl (inr b))) =
      later_within (λ p. Within (upto n) (package_tree p)) _ (λ (p : Package). p.keyword.start) kind.PackageTwice n _ x
      (λ p w. w.0)
      (each_part (upto n) statement_tree file_package package_tree _ (λ s w. grind arith)
      (listed (upto n) statement_tree tree.statements all.1)) b
  head_breaks tree d x all at (inl (inr b)) =
      text_twice n _ import_mark d.imports x at.imports b
  head_breaks tree d x all at (inr b) = statements_break statement_tree file_setting element.File _ x
      (λ s w. grind arith) (listed (upto n) statement_tree tree.statements all.1) b

  elements_break : (ss : List Statement) (x : Spot) → EachIn (upto n) statement_tree ss → ElementsBreak ss x
      → SpotWithin n x
  elements_break ss x all (inl (inl b)) = parts_break statement_tree file_message message_tree MessageBreaks _ x
      (λ s w. grind arith) (λ m w. each_within (EachIn (upto n) message_item_tree) BodyBreaks n (bodies m.items) x
      (by_items ItemBodies MessageBodies message_bodies (λ i is all. grind arith) bodies_step m w)
      (body_breaks x)) all b
  elements_break ss x all (inl (inr b)) =
      parts_break statement_tree file_enum enum_tree EnumBreaks _ x (λ s w. grind arith) (enum_breaks x) all b
  elements_break ss x all (inr b) = parts_break statement_tree file_service service_tree ServiceBreaks _ x
      (λ s w. grind arith) (service_breaks x) all b

  described_names_break : (d : FileDesc) (x : Spot) → FileParts (upto n) d → NamesBreak d x → SpotWithin n x
  described_names_break d x at (inl b) = each_within NamesAt MessageNamesBreak n (flat_map names_of d.messages) x
      (each_given (DescWithin (upto n)) NamesAt names_of d.messages
      (λ m w. (by_nested DescAt desc_step m w).0) at.messages) (names_break x) b
  described_names_break d x at (inr b) =
      each_within (EnumWithin (upto n)) EnumNamesBreak n d.enums x at.enums (enum_names_break x) b

  lengths_break : (limits : Limits) (ss : List Statement) (d : FileDesc) (x : Spot)
      → EachIn (upto n) statement_tree ss → FileParts (upto n) d → LengthsBreak limits ss d x → SpotWithin n x
  lengths_break limits ss d x all at (inl b) = parts_break statement_tree file_package package_tree
      (PackageTooLong limits) _ x (λ s w. grind arith) (λ p w c. grind arith) all b
  lengths_break limits ss d x all at (inr b) = each_within DeclaredAt (IsTooLong limits) n (declared_by d) x
      (declared_at d at) (λ d within s. at_spot n d.place _ x within s.1) b

  pub breaks_within : (limits : Limits) (name : List ℕ) (tree : FileTree) (x : Spot)
      → Within (upto n) (file_tree tree)
      → FileBreaks limits tree (lowered name tree) x → SpotWithin n x
  unfolding FileBreaks
  breaks_within limits name tree x all b = by b
    where
      ss : EachIn (upto n) statement_tree tree.statements
      ss = listed (upto n) statement_tree tree.statements all.1

      at : FileParts (upto n) (lowered name tree)
      at = lowered_parts (upto n) name tree all.1

      by : FileBreaks limits tree (lowered name tree) x → SpotWithin n x
      by (inl (inl (inl b))) = head_breaks tree (lowered name tree) x all at b
      by (inl (inl (inr b))) = elements_break tree.statements x ss b
      by (inl (inr b)) = described_names_break (lowered name tree) x at b
      by (inr b) = lengths_break limits tree.statements (lowered name tree) x ss at b
