-- Descriptors that fit say something.
use Rattle.std.proofs.Common.{◌≡◌, ◌∙◌, sym, ap, subst, refl, ℕ, zero, suc, ◌+◌, ◌*◌, ◌<◌, ◌≤◌, ◌^◌, List, [], ◌∷◌, ◌++◌, length, map, flat_map, filter_map, codes, Option, None, Some, IsUtf8, arith, append_assoc, length-append}
use Rattle.std.specs.List.{AllByRecursion}
use Rattle.proto_desc.specs.DeclaredNames.{file_scope, scoped}
use Rattle.proto_desc.specs.declared.enumeration.EnumDesc.{EnumDesc}
use Rattle.proto_desc.specs.declared.enumeration.ValueDesc.{ValueDesc}
use Rattle.proto_desc.specs.declared.field.FieldDesc.{FieldDesc}
use Rattle.proto_desc.specs.declared.file.FileDesc.{FileDesc}
use Rattle.proto_desc.specs.declared.file.ImportDescriptor.{ImportDescriptor}
use Rattle.proto_desc.specs.declared.message.MessageDesc.{MessageDesc}
use Rattle.proto_desc.specs.declared.message.MessageDesc.TheViews.{out-MessageDesc}
use Rattle.proto_desc.specs.declared.oneof.OneofDesc.{OneofDesc}
use Rattle.proto_desc.specs.declared.service.MethodDesc.{MethodDesc}
use Rattle.proto_desc.specs.declared.service.ServiceDesc.{ServiceDesc}
use Rattle.proto_sets.specs.Elements.{element_in, number_in, scope_inside, text_of}
use Rattle.proto_sets.specs.Heads.{IsHead, imports_from, package_by, paths_of}
use Rattle.proto_sets.specs.Says.{AllSay, FieldSays, Inside, IsElement, Said, said_by}
use Rattle.proto_sets.specs.SaysSteps.{HoldsNone}
use Rattle.proto_sets.specs.Sets.{Contents, SaysFile}
use Rattle.proto_sets.specs.declared.element.Element.{Element}
use Rattle.proto_sets.specs.declared.element.Element.TheVariants.{Message, Enumeration, Service, Method, Field, Oneof, Value as EnumValue}
use Rattle.wire_bytes.specs.Descriptor.{enum_desc_bytes, enum_range_bytes, field_desc_bytes, file_desc_bytes, message_desc_bytes, message_options_bytes, method_desc_bytes, oneof_desc_bytes, option_bytes, package_name, public_fields, range_bytes, service_desc_bytes, settings_field, text_field, value_desc_bytes}
use Rattle.wire_format.specs.Field.{bytes_field}
use Rattle.wire_format.specs.Reading.{Value, bytes, number}
use Rattle.wire_format.specs.Varint.{varint_bytes}
use Rattle.set_round_trip.specs.Fits.{EnumFits, FieldFits, FileFits, MessageFits, MethodFits, OneofFits, ServiceFits, ValueFits}
use Rattle.set_round_trip.proofs.Entries.{enum_entries, enum_name, field_entries, field_name, file_entries, file_name_is, import_path, itself, message_entries, message_name, method_entries, method_name, oneof_entries, options_entry, package_is, paths_are, public_entries, service_entries, service_name, settings_entry, text_entry, value_entries, value_name}
use Rattle.set_round_trip.proofs.FileContents.{scope_back}
use Rattle.set_round_trip.proofs.Fronts.{entry, varint_some}
use Rattle.set_round_trip.proofs.Rows.{AreShort, IsWrittenAs}
use Rattle.set_round_trip.proofs.Saying.{HoldNone, hold_each, hold_options, hold_publics, hold_text, leaf_none}
use Rattle.set_round_trip.proofs.Written.{write_enum, write_field, write_file, write_message, write_method, write_oneof, write_service, write_value}

-- ---- fields that say something

pub record CanSay (Says : ℕ × Value → List Said → Type 0) (fs : List (ℕ × Value)) : Type 0 where
  pub said : List Said
  pub all : AllSay Says fs said

-- where they are short
abbrev CanSayShort : (ℕ × Value → List Said → Type 0) → List (ℕ × Value) → Type 0
CanSayShort Says fs = AreShort fs → CanSay Says fs

short_front : (xs ys : List (ℕ × Value)) → AreShort (xs ++ ys) → AreShort xs
short_front [] ys short = tt
short_front (x ∷ xs) ys short = (short.0, short_front xs ys short.1)

short_behind : (xs ys : List (ℕ × Value)) → AreShort (xs ++ ys) → AreShort ys
short_behind [] ys short = short
short_behind (x ∷ xs) ys short = short_behind xs ys short.1

say_both : (Says : ℕ × Value → List Said → Type 0) (xs ys : List (ℕ × Value)) (a b : List Said) → AllSay Says xs a
    → AllSay Says ys b → AllSay Says (xs ++ ys) (a ++ b)
say_both Says [] ys a b one other = subst (λ s. AllSay Says ys (s ++ b)) (sym one) other
say_both Says (x ∷ xs) ys a b (first, rest, here, more, is) other = (
  first,
  rest ++ b,
  here,
  say_both Says xs ys rest b more other,
  ap (λ (s : List Said). s ++ b) is ∙ append_assoc first rest b,
)

module _ {Says : ℕ × Value → List Said → Type 0} where
  can_both : (xs ys : List (ℕ × Value)) → CanSayShort Says xs → CanSayShort Says ys → CanSayShort Says (xs ++ ys)
  can_both xs ys one other short =
      let first = one (short_front xs ys short) in
      let second = other (short_behind xs ys short) in
      record { said = first.said ++ second.said; all = say_both Says xs ys first.said second.said first.all second.all }

  can_each : {X : Type 0} (n : ℕ) (f : X → List ℕ) (P : X → Type 0)
      → ((x : X) → P x → length (f x) < 2 ^ 64 → (said : List Said) × Says (n, bytes (f x)) said)
      → (xs : List X) → AllByRecursion P xs → CanSayShort Says (map (entry n f) xs)
  can_each n f P each [] all short = record { said = []; all = refl }
  can_each n f P each (x ∷ xs) all short =
      let (first, here) = each x all.0 short.0 in
      let rest = can_each n f P each xs all.1 short.1 in
      record { said = first ++ rest.said; all = (first, rest.said, here, rest.all, refl) }

module _ (W : Option Element → List ℕ → List (ℕ × Value) → List Said → Type 0) (holder : Option Element)
    (scope : List ℕ) where
  silent_says : (field : ℕ × Value) → HoldsNone holder field → FieldSays W holder scope field []
  silent_says (n, number value) none = refl
  silent_says (n, bytes text) none = rw none refl

  all_silent : (fs : List (ℕ × Value)) → HoldNone holder fs → AllSay (FieldSays W holder scope) fs []
  all_silent [] none = refl
  all_silent (f ∷ fs) none = ([], [], silent_says f none.0, all_silent fs none.1, refl)

  can_silent : (fs : List (ℕ × Value)) → HoldNone holder fs → CanSayShort (FieldSays W holder scope) fs
  can_silent fs none short = record { said = []; all = all_silent fs none }

-- ---- elements

-- an element that is written, whose name is UTF-8 and whose fields say something
element_said : (k : ℕ) (e : Element) (scope text name : List ℕ) (entries : List (ℕ × Value)) → IsWrittenAs text entries
    → length text < 2 ^ 64 → text_of 1 entries ≡ name → IsUtf8 name
    → CanSayShort (FieldSays (Inside k) (Some e) (scope_inside e scope name)) entries
    → (said : List Said) × IsElement (Inside (suc k)) e scope text said
element_said k e scope text name entries written few named utf8 says =
    let inner = says (written.short few) in (
      said_by e scope entries ∷ inner.said,
      record {
        fields = entries;
        row = written.row few;
        utf8 = subst IsUtf8 (sym named) utf8;
        inner = inner.said;
        inside = subst (λ n. Inside (suc k) (Some e) (scope_inside e scope n) entries inner.said) (sym named) inner.all;
        all = refl;
      },
    )

-- one that holds no others
leaf_said : (k : ℕ) (e : Element) → ((n : ℕ) → element_in (Some e) n ≡ None) → (scope text name : List ℕ)
    (entries : List (ℕ × Value)) → 0 < k → IsWrittenAs text entries → length text < 2 ^ 64 → text_of 1 entries ≡ name
    → IsUtf8 name → (said : List Said) × IsElement (Inside k) e scope text said
leaf_said zero e leaf scope text name entries some written few named utf8 = absurd (omega (arith, some))
leaf_said (suc j) e leaf scope text name entries some written few named utf8 =
    element_said j e scope text name entries written few named utf8
    (can_silent (Inside j) (Some e) (scope_inside e scope name) entries (leaf_none e leaf entries))

module _ (k : ℕ) (scope : List ℕ) where
  field_said : (f : FieldDesc) → FieldFits k f → length (field_desc_bytes f) < 2 ^ 64
      → (said : List Said) × IsElement (Inside k) Field scope (field_desc_bytes f) said
  field_said f fits few = leaf_said k Field (λ n. refl) scope (field_desc_bytes f) f.name (field_entries f) fits.some
      (write_field k f fits) few (field_name f) fits.name

  oneof_said : (o : OneofDesc) → OneofFits k o → length (oneof_desc_bytes o) < 2 ^ 64
      → (said : List Said) × IsElement (Inside k) Oneof scope (oneof_desc_bytes o) said
  oneof_said o fits few = leaf_said k Oneof (λ n. refl) scope (oneof_desc_bytes o) o.name (oneof_entries o) fits.some
      (write_oneof o) few refl fits.name

  value_said : (v : ValueDesc) → ValueFits k v → length (value_desc_bytes v) < 2 ^ 64
      → (said : List Said) × IsElement (Inside k) EnumValue scope (value_desc_bytes v) said
  value_said v fits few = leaf_said k EnumValue (λ n. refl) scope (value_desc_bytes v) v.name (value_entries v)
      fits.some (write_value k v fits) few (value_name v) fits.name

  method_said : (m : MethodDesc) → MethodFits k m → length (method_desc_bytes m) < 2 ^ 64
      → (said : List Said) × IsElement (Inside k) Method scope (method_desc_bytes m) said
  method_said m fits few = leaf_said k Method (λ n. refl) scope (method_desc_bytes m) m.name (method_entries m)
      fits.some (write_method m) few (method_name m) fits.name

enum_said : (k : ℕ) (scope : List ℕ) (e : EnumDesc) → EnumFits k e → length (enum_desc_bytes e) < 2 ^ 64
    → (said : List Said) × IsElement (Inside k) Enumeration scope (enum_desc_bytes e) said
enum_said zero scope e fits few = absurd fits
enum_said (suc k) scope e fits few =
    let none = can_silent (Inside k) (Some Enumeration) scope in
    let name = (1, bytes e.name) ∷ [] in
    let values = map (entry 2 value_desc_bytes) e.values in
    let options = settings_entry 3 e.options in
    let ranges = map (entry 4 enum_range_bytes) e.reserved_ranges in
    let names = map (entry 5 itself) e.reserved_names in
    element_said k Enumeration scope (enum_desc_bytes e) e.name (enum_entries e) (write_enum e) few (enum_name e)
    fits.name (can_both (name ++ values ++ options ++ ranges) names (can_both (name ++ values ++ options) ranges
    (can_both (name ++ values) options (can_both name values (none name (refl, tt))
    (can_each 2 value_desc_bytes (ValueFits k) (value_said k scope) e.values fits.values))
    (none options (hold_options (Some Enumeration) 3 (flat_map option_bytes e.options) refl)))
    (none ranges (hold_each (Some Enumeration) 4 enum_range_bytes e.reserved_ranges refl)))
    (none names (hold_each (Some Enumeration) 5 itself e.reserved_names refl)))

service_said : (k : ℕ) (scope : List ℕ) (s : ServiceDesc) → ServiceFits k s → length (service_desc_bytes s) < 2 ^ 64
    → (said : List Said) × IsElement (Inside k) Service scope (service_desc_bytes s) said
service_said zero scope s fits few = absurd fits
service_said (suc k) scope s fits few =
    let inner = scoped scope s.name in
    let none = can_silent (Inside k) (Some Service) inner in
    let name = (1, bytes s.name) ∷ [] in
    let methods = map (entry 2 method_desc_bytes) s.methods in
    let options = settings_entry 3 s.options in
    element_said k Service scope (service_desc_bytes s) s.name (service_entries s) (write_service s) few
    (service_name s) fits.name (can_both (name ++ methods) options (can_both name methods (none name (refl, tt))
    (can_each 2 method_desc_bytes (MethodFits k) (method_said k inner) s.methods fits.methods))
    (none options (hold_options (Some Service) 3 (flat_map option_bytes s.options) refl)))

message_said : (k : ℕ) (scope : List ℕ) (m : MessageDesc) → MessageFits k m → length (message_desc_bytes m) < 2 ^ 64
    → (said : List Said) × IsElement (Inside k) Message scope (message_desc_bytes m) said
message_said zero scope m fits few = absurd fits
message_said (suc k) scope m fits few =
    let body = out-MessageDesc m in
    let inner = scoped scope body.name in
    let none = can_silent (Inside k) (Some Message) inner in
    let name = (1, bytes body.name) ∷ [] in
    let fields = map (entry 2 field_desc_bytes) body.fields in
    let nested = map (entry 3 message_desc_bytes) body.nested in
    let enums = map (entry 4 enum_desc_bytes) body.enums in
    let settings = message_options_bytes body.options body.is_map_entry in
    let options = options_entry 7 settings in
    let oneofs = map (entry 8 oneof_desc_bytes) body.oneofs in
    let ranges = map (entry 9 range_bytes) body.reserved_ranges in
    let names = map (entry 10 itself) body.reserved_names in
    element_said k Message scope (message_desc_bytes m) body.name (message_entries m) (write_message m) few
    (message_name m) fits.name
    (can_both (name ++ fields ++ nested ++ enums ++ options ++ oneofs ++ ranges) names
    (can_both (name ++ fields ++ nested ++ enums ++ options ++ oneofs) ranges
    (can_both (name ++ fields ++ nested ++ enums ++ options) oneofs
    (can_both (name ++ fields ++ nested ++ enums) options
    (can_both (name ++ fields ++ nested) enums
    (can_both (name ++ fields) nested
    (can_both name fields (none name (refl, tt))
    (can_each 2 field_desc_bytes (FieldFits k) (field_said k inner) body.fields fits.fields))
    (can_each 3 message_desc_bytes (MessageFits k) (message_said k inner) body.nested fits.nested))
    (can_each 4 enum_desc_bytes (EnumFits k) (enum_said k inner) body.enums fits.enums))
    (none options (hold_options (Some Message) 7 settings refl)))
    (can_each 8 oneof_desc_bytes (OneofFits k) (oneof_said k inner) body.oneofs fits.oneofs))
    (none ranges (hold_each (Some Message) 9 range_bytes body.reserved_ranges refl)))
    (none names (hold_each (Some Message) 10 itself body.reserved_names refl)))

-- ---- files

all_mapped : {X Y : Type 0} (f : X → Y) (P : Y → Type 0) (xs : List X) → AllByRecursion (λ x. P (f x)) xs
    → AllByRecursion P (map f xs)
all_mapped f P [] all = tt
all_mapped f P (x ∷ xs) all = (all.0, all_mapped f P xs all.1)

-- each import takes a byte and more
imports_long : (is : List ImportDescriptor) → length is ≤ length (flat_map (λ i. bytes_field 3 (import_path i)) is)
imports_long [] = omega arith
imports_long (i ∷ is) =
    let rest = flat_map (λ i. bytes_field 3 (import_path i)) is in
    let size = varint_bytes (length i.path) in
    omega (
      arith,
      imports_long is,
      length-append (bytes_field 3 i.path) rest,
      length-append (varint_bytes (3 * 8 + 2) ++ size) i.path,
      length-append (varint_bytes (3 * 8 + 2)) size,
      varint_some (3 * 8 + 2),
    )

file_said : (depth : ℕ) (f : FileDesc) → FileFits depth f → AreShort (file_entries f)
    → CanSay (FieldSays (Inside depth) None (file_scope f.«package»)) (file_entries f)
file_said depth f fits =
    let scope = file_scope f.«package» in
    let none = can_silent (Inside depth) None scope in
    let name = (1, bytes f.name) ∷ [] in
    let own = text_entry 2 (package_name f.«package») in
    let imports = map (entry 3 import_path) f.imports in
    let messages = map (entry 4 message_desc_bytes) f.messages in
    let enums = map (entry 5 enum_desc_bytes) f.enums in
    let services = map (entry 6 service_desc_bytes) f.services in
    let options = settings_entry 8 f.options in
    let publics = public_entries 0 f.imports in
    let syntax = (12, bytes (codes "proto3")) ∷ [] in
    can_both (name ++ own ++ imports ++ messages ++ enums ++ services ++ options ++ publics) syntax
    (can_both (name ++ own ++ imports ++ messages ++ enums ++ services ++ options) publics
    (can_both (name ++ own ++ imports ++ messages ++ enums ++ services) options
    (can_both (name ++ own ++ imports ++ messages ++ enums) services
    (can_both (name ++ own ++ imports ++ messages) enums
    (can_both (name ++ own ++ imports) messages
    (can_both (name ++ own) imports
    (can_both name own (none name (refl, tt)) (none own (hold_text None 2 (package_name f.«package») refl)))
    (none imports (hold_each None 3 import_path f.imports refl)))
    (can_each 4 message_desc_bytes (MessageFits depth) (message_said depth scope) f.messages fits.messages))
    (can_each 5 enum_desc_bytes (EnumFits depth) (enum_said depth scope) f.enums fits.enums))
    (can_each 6 service_desc_bytes (ServiceFits depth) (service_said depth scope) f.services fits.services))
    (none options (hold_options None 8 (flat_map option_bytes f.options) refl)))
    (none publics (hold_publics None 0 f.imports)))
    (none syntax (refl, tt))

front_le : (a b : List ℕ) → length a ≤ length (a ++ b)
front_le a b = omega (arith, length-append a b)

-- a file has no more imports than bytes
imports_fit : (f : FileDesc) → length f.imports ≤ length (file_desc_bytes f)
imports_fit f =
    let head = bytes_field 1 f.name ++ text_field 2 (package_name f.«package») in
    let imports = flat_map (λ i. bytes_field 3 (import_path i)) f.imports in
    let messages = flat_map (λ m. bytes_field 4 (message_desc_bytes m)) f.messages in
    let enums = flat_map (λ e. bytes_field 5 (enum_desc_bytes e)) f.enums in
    let services = flat_map (λ s. bytes_field 6 (service_desc_bytes s)) f.services in
    let options = settings_field 8 f.options in
    let publics = public_fields 0 f.imports in
    let syntax = bytes_field 12 (codes "proto3") in
    omega (
      arith,
      imports_long f.imports,
      length-append head imports,
      front_le (head ++ imports) messages,
      front_le (head ++ imports ++ messages) enums,
      front_le (head ++ imports ++ messages ++ enums) services,
      front_le (head ++ imports ++ messages ++ enums ++ services) options,
      front_le (head ++ imports ++ messages ++ enums ++ services ++ options) publics,
      front_le (head ++ imports ++ messages ++ enums ++ services ++ options ++ publics) syntax,
    )

head_by : FileDesc → FileDesc
head_by f = record {
  name = f.name;
  «package» = package_by (file_scope f.«package»);
  imports = imports_from (filter_map (number_in 10) (file_entries f)) 0 (paths_of (file_entries f));
  messages = [];
  enums = [];
  services = [];
  options = [];
}

pub file_speaks : (depth : ℕ) (f : FileDesc) → FileFits depth f → length (file_desc_bytes f) < 2 ^ 64
    → (c : Contents) × SaysFile depth (file_desc_bytes f) c
unfolding head_by
file_speaks depth f fits few =
    let written = write_file f (omega (arith, imports_fit f, few)) in
    let says = file_said depth f fits (written.short few) in
    let head = head_by f in
    let is : IsHead (file_entries f) head = record {
      name = sym (file_name_is f);
      name_utf8 = subst IsUtf8 (sym (file_name_is f)) fits.name.utf8;
      of_package = ap package_by (sym (package_is f));
      package_utf8 = subst IsUtf8 (sym (package_is f)) fits.own;
      imports = refl;
      paths_utf8 = subst (λ ps. AllByRecursion IsUtf8 ps) (sym (paths_are f))
          (all_mapped import_path IsUtf8 f.imports fits.imports);
      no_message = refl;
      no_enum = refl;
      no_service = refl;
      no_option = refl;
    } in (
      record { head = head; said = says.said },
      record {
        fields = file_entries f;
        row = written.row few;
        of_head = is;
        all = subst (λ s. AllSay (FieldSays (Inside depth) None s) (file_entries f) says.said)
            (sym (scope_back (file_scope f.«package»))) says.all;
      },
    )
