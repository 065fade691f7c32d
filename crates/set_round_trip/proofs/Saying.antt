-- What the fields of descriptors say: the names that the descriptors declare, in some order, and no extensions.
use Rattle.std.proofs.Common.{◌≡◌, ◌∙◌, sym, ap, subst, refl, arith, ℕ, zero, suc, ◌+◌, Bool, true, false, codes, List, [], ◌∷◌, ◌++◌, map, flat_map, Option, None, Some, MatchOption, IsPermutation, append_assoc, append-nil}
use Rattle.std.specs.List.{AllByRecursion}
use Rattle.std.proofs.lemmas.List.{map-append}
use Rattle.std.proofs.lemmas.List.Concat.{flat_map_single}
use Rattle.std.proofs.lemmas.List.Sorted.{IsPermutation-append, IsPermutation-append_comm, IsPermutation-append_left, IsPermutation-append_right, IsPermutation-cons, IsPermutation-map, IsPermutation-refl, IsPermutation-trans}
use Rattle.std.proofs.lemmas.Option.{none-some}
use Rattle.proto_desc.proofs.Declared.{declared_out, scope_in}
use Rattle.proto_desc.specs.DeclaredNames.{Declared, declared_by_enum, declared_by_message, declared_by_service, declared_field, declared_in, declared_method, declared_oneof, declared_value, scoped}
use Rattle.proto_desc.specs.declared.enumeration.EnumDesc.{EnumDesc}
use Rattle.proto_desc.specs.declared.enumeration.ValueDesc.{ValueDesc}
use Rattle.proto_desc.specs.declared.field.FieldDesc.{FieldDesc}
use Rattle.proto_desc.specs.declared.file.FileDesc.{FileDesc}
use Rattle.proto_desc.specs.declared.file.ImportDescriptor.{ImportDescriptor}
use Rattle.proto_desc.specs.declared.message.MessageDesc.{MessageDesc}
use Rattle.proto_desc.specs.declared.message.MessageDesc.TheViews.{out-MessageDesc}
use Rattle.proto_desc.specs.declared.oneof.OneofDesc.{OneofDesc}
use Rattle.proto_desc.specs.declared.service.MethodDesc.{MethodDesc}
use Rattle.proto_desc.specs.declared.service.ServiceDesc.{ServiceDesc}
use Rattle.proto_sets.specs.Elements.{element_in, kind_of, scope_inside, text_of}
use Rattle.proto_sets.specs.Says.{AllSay, FieldSays, Inside, IsElement, Said, extends_by, said_by, start}
use Rattle.proto_sets.specs.SaysSteps.{HoldsNone}
use Rattle.proto_sets.specs.declared.element.Element.{Element}
use Rattle.proto_sets.specs.declared.element.Element.TheVariants.{Message, Enumeration, Service, Method, Field, Oneof, Value as EnumValue}
use Rattle.wire_bytes.specs.Descriptor.{enum_desc_bytes, enum_range_bytes, field_desc_bytes, message_desc_bytes, message_options_bytes, method_desc_bytes, oneof_desc_bytes, option_bytes, package_name, range_bytes, service_desc_bytes, value_desc_bytes}
use Rattle.wire_format.specs.Reading.{Value, bytes, number}
use Rattle.set_round_trip.proofs.Entries.{enum_entries, enum_name, field_entries, field_name, file_entries, import_path, itself, message_entries, message_name, method_entries, method_name, oneof_entries, options_entry, public_entries, public_entry, read_enum, read_field, read_message, read_method, read_oneof, read_service, read_value, service_entries, service_name, settings_entry, text_entry, value_entries, value_name}
use Rattle.set_round_trip.proofs.Fronts.{IsReadAs, entry, read_all}

-- a declared name, as a descriptor says it
abbrev pub as_said : Declared → Said
as_said d = record {
  declared = record { scope = d.scope; name = d.name; kind = d.kind; place = start };
  extends = None;
}

-- ---- fields that say names

pub record SayNames (Says : ℕ × Value → List Said → Type 0) (fs : List (ℕ × Value)) (ds : List Declared) : Type 0 where
  pub all : (said : List Said) → AllSay Says fs said → IsPermutation said (map as_said ds)

say_split : (Says : ℕ × Value → List Said → Type 0) (xs ys : List (ℕ × Value)) (said : List Said)
    → AllSay Says (xs ++ ys) said
    → (a : List Said) × (b : List Said) × AllSay Says xs a × AllSay Says ys b × (said ≡ a ++ b)
say_split Says [] ys said all = ([], said, refl, all, refl)
say_split Says (f ∷ xs) ys said (first, rest, here, more, is) =
    let (a, b, one, two, same) = say_split Says xs ys rest more in (
      first ++ a,
      b,
      (first, a, here, one, refl),
      two,
      is ∙ ap (λ (s : List Said). first ++ s) same ∙ sym (append_assoc first a b),
    )

module _ {Says : ℕ × Value → List Said → Type 0} where
  names_both : {xs ys : List (ℕ × Value)} {ds es : List Declared} → SayNames Says xs ds → SayNames Says ys es
      → SayNames Says (xs ++ ys) (ds ++ es)
  names_both {xs = xs} {ys = ys} {ds = ds} {es = es} first second = record {
    all = λ said all. (
        let (a, b, one, two, same) = say_split Says xs ys said all in
        let both = IsPermutation-append a (map as_said ds) b (map as_said es) (first.all a one) (second.all b two) in
        subst (λ s. IsPermutation s (map as_said (ds ++ es))) (sym same)
        (subst (λ s. IsPermutation (a ++ b) s) (sym (map-append as_said ds es)) both));
  }

  names_same : {fs : List (ℕ × Value)} {ds es : List Declared} → SayNames Says fs ds → ds ≡ es → SayNames Says fs es
  names_same {fs = fs} first same = subst (λ ds. SayNames Says fs ds) same first

  -- behind them stands what says nothing
  names_more : {xs ys : List (ℕ × Value)} {ds : List Declared} → SayNames Says xs ds → SayNames Says ys []
      → SayNames Says (xs ++ ys) ds
  names_more {ds = ds} first none = names_same (names_both first none) (append-nil ds)

  names_moved : {fs : List (ℕ × Value)} {ds es : List Declared} → SayNames Says fs ds → IsPermutation ds es
      → SayNames Says fs es
  names_moved {ds = ds} {es = es} first moved = record {
    all = λ said all. IsPermutation-trans said (map as_said ds) (map as_said es) (first.all said all)
        (IsPermutation-map as_said ds es moved);
  }

  names_each : {X : Type 0} (n : ℕ) (f : X → List ℕ) (g : X → List Declared)
      → ((x : X) (said : List Said) → Says (n, bytes (f x)) said → IsPermutation said (map as_said (g x)))
      → (xs : List X) → SayNames Says (map (entry n f) xs) (flat_map g xs)
  names_each n f g each [] = record {
    all = λ said none. subst (λ s. IsPermutation s []) (sym none) (IsPermutation-refl []);
  }
  names_each n f g each (x ∷ xs) = record {
    all = λ said (first, rest, here, more, is). (
        let both = IsPermutation-append first (map as_said (g x)) rest (map as_said (flat_map g xs))
        (each x first here) ((names_each n f g each xs).all rest more) in
        subst (λ s. IsPermutation s (map as_said (g x ++ flat_map g xs))) (sym is)
        (subst (λ s. IsPermutation (first ++ rest) s) (sym (map-append as_said (g x) (flat_map g xs))) both));
  }

  names_one : {X : Type 0} (n : ℕ) (f : X → List ℕ) (g : X → Declared)
      → ((x : X) (said : List Said) → Says (n, bytes (f x)) said → IsPermutation said (as_said (g x) ∷ []))
      → (xs : List X) → SayNames Says (map (entry n f) xs) (map g xs)
  names_one n f g each xs = names_same (names_each n f (λ x. g x ∷ []) each xs) (flat_map_single g xs)

-- ---- fields that hold no element

matched_none : {A : Type 0} (o : Option A) (P : Type 0) (Q : A → Type 0) → o ≡ None → MatchOption o P Q → P
matched_none None P Q none it = it
matched_none (Some a) P Q none it = absurd (none-some a (sym none))

abbrev pub HoldNone : Option Element → List (ℕ × Value) → Type 0
HoldNone holder fs = AllByRecursion (HoldsNone holder) fs

module _ (W : Option Element → List ℕ → List (ℕ × Value) → List Said → Type 0) (holder : Option Element)
    (scope : List ℕ) where
  silent_field : (field : ℕ × Value) (said : List Said) → HoldsNone holder field
      → FieldSays W holder scope field said → said ≡ []
  silent_field (n, number value) said none says = says
  silent_field (n, bytes text) said none says =
      matched_none (element_in holder n) (said ≡ []) (λ e. IsElement W e scope text said) none says

  silent_all : (fs : List (ℕ × Value)) (said : List Said) → HoldNone holder fs
      → AllSay (FieldSays W holder scope) fs said → said ≡ []
  silent_all [] said none all = all
  silent_all (f ∷ fs) said (none, others) (first, rest, here, more, is) =
      is ∙ ap (λ (s : List Said). s ++ rest) (silent_field f first none here) ∙ silent_all fs rest others more

  silent : (fs : List (ℕ × Value)) → HoldNone holder fs → SayNames (FieldSays W holder scope) fs []
  silent fs none = record {
    all = λ said all. subst (λ s. IsPermutation s []) (sym (silent_all fs said none all)) (IsPermutation-refl []);
  }

module _ (holder : Option Element) where
  pub hold_text : (n : ℕ) (o : Option (List ℕ)) → element_in holder n ≡ None → HoldNone holder (text_entry n o)
  hold_text n None none = tt
  hold_text n (Some text) none = (none, tt)

  pub hold_options : (n : ℕ) (text : List ℕ) → element_in holder n ≡ None → HoldNone holder (options_entry n text)
  hold_options n [] none = tt
  hold_options n (b ∷ bs) none = (none, tt)

  pub hold_each : {X : Type 0} (n : ℕ) (f : X → List ℕ) (xs : List X) → element_in holder n ≡ None
      → HoldNone holder (map (entry n f) xs)
  hold_each n f [] none = tt
  hold_each n f (x ∷ xs) none = (none, hold_each n f xs none)

  hold_public : (b : Bool) (position : ℕ) (fs : List (ℕ × Value)) → HoldNone holder fs
      → HoldNone holder (public_entry b position ++ fs)
  hold_public true position fs none = (tt, none)
  hold_public false position fs none = none

  pub hold_publics : (position : ℕ) (is : List ImportDescriptor) → HoldNone holder (public_entries position is)
  hold_publics position [] = tt
  hold_publics position (i ∷ is) =
      hold_public i.is_public position (public_entries (position + 1) is) (hold_publics (position + 1) is)

pub leaf_none : (e : Element) → ((n : ℕ) → element_in (Some e) n ≡ None) → (fs : List (ℕ × Value))
    → HoldNone (Some e) fs
leaf_none e leaf [] = tt
leaf_none e leaf ((n, number value) ∷ fs) = (tt, leaf_none e leaf fs)
leaf_none e leaf ((n, bytes text) ∷ fs) = (leaf n, leaf_none e leaf fs)

-- ---- elements

said_as : (e : Element) (scope : List ℕ) (fs : List (ℕ × Value)) (name : List ℕ) → text_of 1 fs ≡ name
    → extends_by e fs ≡ None
    → said_by e scope fs ≡ as_said (record { scope = scope; name = name; kind = kind_of e; place = start })
said_as e scope fs name is none =
    λ i. record { declared = record { scope = scope; name = is i; kind = kind_of e; place = start }; extends = none i }

-- an element that is written says its name, and what its fields say
element_says : (k : ℕ) (e : Element) (scope text name : List ℕ) (entries : List (ℕ × Value)) (inside : List Declared)
    → extends_by e entries ≡ None → IsReadAs text entries → text_of 1 entries ≡ name
    → ((j : ℕ) → k ≡ suc j → SayNames (FieldSays (Inside j) (Some e) (scope_inside e scope name)) entries inside)
    → (said : List Said) → IsElement (Inside k) e scope text said
    → IsPermutation said
    (as_said (record { scope = scope; name = name; kind = kind_of e; place = start }) ∷ map as_said inside)
element_says zero e scope text name entries inside plain reads named says said is = absurd is.inside
element_says (suc j) e scope text name entries inside plain reads named says said is =
    let same = read_all reads is.row in
    let within : Inside (suc j) (Some e) (scope_inside e scope name) entries is.inner =
    subst (λ s. Inside (suc j) (Some e) (scope_inside e scope s) entries is.inner) named
    (subst (λ fs. Inside (suc j) (Some e) (scope_inside e scope (text_of 1 fs)) fs is.inner) same is.inside) in
    let own = as_said (record { scope = scope; name = name; kind = kind_of e; place = start }) in
    let first : said_by e scope is.fields ≡ own =
    ap (λ fs. said_by e scope fs) same ∙ said_as e scope entries name named plain in
    subst (λ s. IsPermutation s (own ∷ map as_said inside))
    (sym (is.all ∙ ap (λ (s : Said). s ∷ is.inner) first))
    (IsPermutation-cons own is.inner (map as_said inside) ((says j refl).all is.inner within))

-- one that holds no others
leaf_says : (k : ℕ) (e : Element) → ((n : ℕ) → element_in (Some e) n ≡ None) → (scope text name : List ℕ)
    (entries : List (ℕ × Value)) → extends_by e entries ≡ None → IsReadAs text entries → text_of 1 entries ≡ name
    → (said : List Said) → IsElement (Inside k) e scope text said
    → IsPermutation said (as_said (record { scope = scope; name = name; kind = kind_of e; place = start }) ∷ [])
leaf_says k e leaf scope text name entries plain reads named = element_says k e scope text name entries [] plain reads
    named (λ j at. silent (Inside j) (Some e) (scope_inside e scope name) entries (leaf_none e leaf entries))

module _ (k : ℕ) (scope : List ℕ) where
  field_says : (f : FieldDesc) (said : List Said) → IsElement (Inside k) Field scope (field_desc_bytes f) said
      → IsPermutation said (as_said (declared_field scope f) ∷ [])
  field_says f =
      leaf_says k Field (λ n. refl) scope (field_desc_bytes f) f.name (field_entries f) refl (read_field f)
      (field_name f)

  oneof_says : (o : OneofDesc) (said : List Said) → IsElement (Inside k) Oneof scope (oneof_desc_bytes o) said
      → IsPermutation said (as_said (declared_oneof scope o) ∷ [])
  oneof_says o =
      leaf_says k Oneof (λ n. refl) scope (oneof_desc_bytes o) o.name (oneof_entries o) refl (read_oneof o) refl

  value_says : (v : ValueDesc) (said : List Said) → IsElement (Inside k) EnumValue scope (value_desc_bytes v) said
      → IsPermutation said (as_said (declared_value scope v) ∷ [])
  value_says v = leaf_says k EnumValue (λ n. refl) scope (value_desc_bytes v) v.name (value_entries v) refl
      (read_value v) (value_name v)

  method_says : (m : MethodDesc) (said : List Said) → IsElement (Inside k) Method scope (method_desc_bytes m) said
      → IsPermutation said (as_said (declared_method scope m) ∷ [])
  method_says m = leaf_says k Method (λ n. refl) scope (method_desc_bytes m) m.name (method_entries m) refl
      (read_method m) (method_name m)

enum_names : (j : ℕ) (scope : List ℕ) (e : EnumDesc)
    → SayNames (FieldSays (Inside j) (Some Enumeration) scope) (enum_entries e) (map (declared_value scope) e.values)
enum_names j scope e =
    let none = silent (Inside j) (Some Enumeration) scope in
    names_more (names_more (names_more (names_both (none ((1, bytes e.name) ∷ []) (refl, tt))
    (names_one 2 value_desc_bytes (declared_value scope) (value_says j scope) e.values))
    (none (settings_entry 3 e.options) (hold_options (Some Enumeration) 3 (flat_map option_bytes e.options) refl)))
    (none (map (entry 4 enum_range_bytes) e.reserved_ranges)
    (hold_each (Some Enumeration) 4 enum_range_bytes e.reserved_ranges refl)))
    (none (map (entry 5 itself) e.reserved_names) (hold_each (Some Enumeration) 5 itself e.reserved_names refl))

enum_says : (k : ℕ) (scope : List ℕ) (e : EnumDesc) (said : List Said)
    → IsElement (Inside k) Enumeration scope (enum_desc_bytes e) said
    → IsPermutation said (map as_said (declared_by_enum scope e))
enum_says k scope e = element_says k Enumeration scope (enum_desc_bytes e) e.name (enum_entries e)
    (map (declared_value scope) e.values) refl (read_enum e) (enum_name e) (λ j at. enum_names j scope e)

service_names : (j : ℕ) (scope : List ℕ) (s : ServiceDesc)
    → SayNames (FieldSays (Inside j) (Some Service) scope) (service_entries s) (map (declared_method scope) s.methods)
service_names j scope s =
    let none = silent (Inside j) (Some Service) scope in
    names_more (names_both (none ((1, bytes s.name) ∷ []) (refl, tt))
    (names_one 2 method_desc_bytes (declared_method scope) (method_says j scope) s.methods))
    (none (settings_entry 3 s.options) (hold_options (Some Service) 3 (flat_map option_bytes s.options) refl))

service_says : (k : ℕ) (scope : List ℕ) (s : ServiceDesc) (said : List Said)
    → IsElement (Inside k) Service scope (service_desc_bytes s) said
    → IsPermutation said (map as_said (declared_by_service scope s))
service_says k scope s = element_says k Service scope (service_desc_bytes s) s.name (service_entries s)
    (map (declared_method (scoped scope s.name)) s.methods) refl (read_service s) (service_name s)
    (λ j at. service_names j (scoped scope s.name) s)

-- ---- messages

-- the bytes have fields, messages, enums and oneofs in another order
other_order : (f n e o : List Declared) → IsPermutation (f ++ n ++ e ++ o) (f ++ o ++ e ++ n)
other_order f n e o =
    let there : f ++ n ++ e ++ o ≡ f ++ (n ++ (e ++ o)) = simp append_assoc refl in
    let back : f ++ ((o ++ e) ++ n) ≡ f ++ o ++ e ++ n = simp append_assoc refl in
    subst (λ xs. IsPermutation xs (f ++ o ++ e ++ n)) (sym there)
    (subst (λ xs. IsPermutation (f ++ (n ++ (e ++ o))) xs) back
    (IsPermutation-append_right f (n ++ (e ++ o)) ((o ++ e) ++ n)
    (IsPermutation-trans (n ++ (e ++ o)) ((e ++ o) ++ n) ((o ++ e) ++ n) (IsPermutation-append_comm n (e ++ o))
    (IsPermutation-append_left n (e ++ o) (o ++ e) (IsPermutation-append_comm e o)))))

abbrev nested_names : List ℕ → MessageDesc → List Declared
nested_names scope m = flat_map (λ n. declared_by_message n scope) (out-MessageDesc m).nested

abbrev own_names : List ℕ → MessageDesc → List Declared
own_names scope m = map (declared_field scope) (out-MessageDesc m).fields
    ++ map (declared_oneof scope) (out-MessageDesc m).oneofs
    ++ flat_map (declared_by_enum scope) (out-MessageDesc m).enums

message_names : (j : ℕ) (scope : List ℕ) (m : MessageDesc)
    → ((n : MessageDesc) (said : List Said) → IsElement (Inside j) Message scope (message_desc_bytes n) said
    → IsPermutation said (map as_said (declared_by_message n scope)))
    → SayNames (FieldSays (Inside j) (Some Message) scope) (message_entries m)
    (own_names scope m ++ nested_names scope m)
message_names j scope m nested_say =
    let body = out-MessageDesc m in
    let none = silent (Inside j) (Some Message) scope in
    let fields = map (declared_field scope) body.fields in
    let enums = flat_map (declared_by_enum scope) body.enums in
    let oneofs = map (declared_oneof scope) body.oneofs in
    names_moved (names_more (names_more (names_both (names_more (names_both (names_both (names_both
    (none ((1, bytes body.name) ∷ []) (refl, tt))
    (names_one 2 field_desc_bytes (declared_field scope) (field_says j scope) body.fields))
    (names_each 3 message_desc_bytes (λ n. declared_by_message n scope) nested_say body.nested))
    (names_each 4 enum_desc_bytes (declared_by_enum scope) (enum_says j scope) body.enums))
    (none (options_entry 7 (message_options_bytes body.options body.is_map_entry))
    (hold_options (Some Message) 7 (message_options_bytes body.options body.is_map_entry) refl)))
    (names_one 8 oneof_desc_bytes (declared_oneof scope) (oneof_says j scope) body.oneofs))
    (none (map (entry 9 range_bytes) body.reserved_ranges)
    (hold_each (Some Message) 9 range_bytes body.reserved_ranges refl)))
    (none (map (entry 10 itself) body.reserved_names) (hold_each (Some Message) 10 itself body.reserved_names refl)))
    (other_order fields (nested_names scope m) enums oneofs)

message_says : (k : ℕ) (scope : List ℕ) (m : MessageDesc) (said : List Said)
    → IsElement (Inside k) Message scope (message_desc_bytes m) said
    → IsPermutation said (map as_said (declared_by_message m scope))
message_says zero scope m said is = absurd is.inside
message_says (suc j) scope m said is =
    let inner = scope_in m scope in
    subst (λ ds. IsPermutation said (map as_said ds)) (sym (declared_out m scope))
    (element_says (suc j) Message scope (message_desc_bytes m) (out-MessageDesc m).name (message_entries m)
    (own_names inner m ++ nested_names inner m) refl (read_message m) (message_name m)
    (λ i at. (
    let same : j ≡ i = omega (arith, at) in
    subst (λ x. SayNames (FieldSays (Inside x) (Some Message) inner) (message_entries m)
    (own_names inner m ++ nested_names inner m)) same (message_names j inner m (λ n. message_says j inner n)))) said is)

-- ---- files

pub file_says : (depth : ℕ) (scope : List ℕ) (f : FileDesc)
    → SayNames (FieldSays (Inside depth) None scope) (file_entries f) (declared_in scope f)
file_says depth scope f =
    let none = silent (Inside depth) None scope in
    names_more (names_more (names_more (names_both (names_both (names_both (names_both (names_both
    (none ((1, bytes f.name) ∷ []) (refl, tt))
    (none (text_entry 2 (package_name f.«package»)) (hold_text None 2 (package_name f.«package») refl)))
    (none (map (entry 3 import_path) f.imports) (hold_each None 3 import_path f.imports refl)))
    (names_each 4 message_desc_bytes (λ m. declared_by_message m scope) (message_says depth scope) f.messages))
    (names_each 5 enum_desc_bytes (declared_by_enum scope) (enum_says depth scope) f.enums))
    (names_each 6 service_desc_bytes (declared_by_service scope) (service_says depth scope) f.services))
    (none (settings_entry 8 f.options) (hold_options None 8 (flat_map option_bytes f.options) refl)))
    (none (public_entries 0 f.imports) (hold_publics None 0 f.imports)))
    (none ((12, bytes (codes "proto3")) ∷ []) (refl, tt))
