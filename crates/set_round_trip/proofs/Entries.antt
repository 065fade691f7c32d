-- The fields of each message of a descriptor, as its bytes are read, and the name among them.
use Rattle.std.proofs.Common.{◌≡◌, ◌∙◌, ap, ap₂, append-nil, refl, ℕ, ◌+◌, Bool, true, false, List, [], ◌∷◌, ◌++◌, map, flat_map, codes, Option, None, Some, ◌==◌}
use Rattle.std.specs.List.{filter_map}
use Rattle.std.proofs.lemmas.List.Elements.{filter_map-append}
use Rattle.std.proofs.lemmas.List.Folds.{flat_map-map}
use Rattle.proto_desc.specs.DeclaredNames.{file_scope}
use Rattle.proto_desc.specs.declared.enumeration.EnumDesc.{EnumDesc}
use Rattle.proto_desc.specs.declared.enumeration.ValueDesc.{ValueDesc}
use Rattle.proto_desc.specs.declared.field.FieldDesc.{FieldDesc}
use Rattle.proto_desc.specs.declared.file.FileDesc.{FileDesc}
use Rattle.proto_desc.specs.declared.file.ImportDescriptor.{ImportDescriptor}
use Rattle.proto_desc.specs.declared.file.PackageDescriptor.{PackageDescriptor}
use Rattle.proto_desc.specs.declared.message.MessageDesc.{MessageDesc}
use Rattle.proto_desc.specs.declared.message.MessageDesc.TheFolds.{fold_out-MessageDesc}
use Rattle.proto_desc.specs.declared.message.MessageDesc.TheViews.{out-MessageDesc}
use Rattle.proto_desc.specs.declared.oneof.OneofDesc.{OneofDesc}
use Rattle.proto_desc.specs.declared.options.OptionDescriptor.{OptionDescriptor}
use Rattle.proto_desc.specs.declared.service.MethodDesc.{MethodDesc}
use Rattle.proto_desc.specs.declared.service.ServiceDesc.{ServiceDesc}
use Rattle.proto_sets.specs.Elements.{last_of, number_in, text_in, text_of}
use Rattle.wire_bytes.specs.Descriptor.{enum_desc_bytes, enum_range_bytes, field_desc_bytes, file_desc_bytes, flag_field, index_field, label_number, low_bits, message_desc_bytes, message_options_bytes, message_step, method_desc_bytes, oneof_desc_bytes, option_bytes, options_field, package_name, public_field, public_fields, range_bytes, reference_text, service_desc_bytes, settings_field, text_field, type_name, type_number, value_desc_bytes}
use Rattle.wire_format.specs.Field.{bytes_field}
use Rattle.wire_format.specs.Reading.{Value, bytes, number}
use Rattle.set_round_trip.proofs.Fronts.{IsReadAs, entry, read_both, read_bytes, read_each, read_none, read_number}

-- ---- fields that may be left out

abbrev pub text_entry : ℕ → Option (List ℕ) → List (ℕ × Value)
text_entry n None = []
text_entry n (Some text) = (n, bytes text) ∷ []

abbrev pub index_entry : ℕ → Option ℕ → List (ℕ × Value)
index_entry n None = []
index_entry n (Some index) = (n, number index) ∷ []

abbrev pub flag_entry : ℕ → Bool → List (ℕ × Value)
flag_entry n true = (n, number 1) ∷ []
flag_entry n false = []

abbrev pub options_entry : ℕ → List ℕ → List (ℕ × Value)
options_entry n [] = []
options_entry n (b ∷ bs) = (n, bytes (b ∷ bs)) ∷ []

abbrev pub settings_entry : ℕ → List OptionDescriptor → List (ℕ × Value)
settings_entry n os = options_entry n (flat_map option_bytes os)

abbrev pub public_entry : Bool → ℕ → List (ℕ × Value)
public_entry true position = (10, number position) ∷ []
public_entry false position = []

abbrev pub public_entries : ℕ → List ImportDescriptor → List (ℕ × Value)
public_entries position [] = []
public_entries position (i ∷ is) = public_entry i.is_public position ++ public_entries (position + 1) is

read_text : (n : ℕ) (o : Option (List ℕ)) → IsReadAs (text_field n o) (text_entry n o)
read_text n None = read_none
read_text n (Some text) = read_bytes n text

read_index : (n : ℕ) (o : Option ℕ) → IsReadAs (index_field n o) (index_entry n o)
read_index n None = read_none
read_index n (Some index) = read_number n index

read_flag : (n : ℕ) (b : Bool) → IsReadAs (flag_field n b) (flag_entry n b)
read_flag n true = read_number n 1
read_flag n false = read_none

read_options : (n : ℕ) (text : List ℕ) → IsReadAs (options_field n text) (options_entry n text)
read_options n [] = read_none
read_options n (b ∷ bs) = read_bytes n (b ∷ bs)

read_settings : (n : ℕ) (os : List OptionDescriptor) → IsReadAs (settings_field n os) (settings_entry n os)
read_settings n os = read_options n (flat_map option_bytes os)

read_public : (b : Bool) (position : ℕ) → IsReadAs (public_field b position) (public_entry b position)
read_public true position = read_number 10 position
read_public false position = read_none

read_publics : (position : ℕ) (is : List ImportDescriptor)
    → IsReadAs (public_fields position is) (public_entries position is)
read_publics position [] = read_none
read_publics position (i ∷ is) = read_both (read_public i.is_public position) (read_publics (position + 1) is)

-- ---- the fields of each message

abbrev pub field_entries : FieldDesc → List (ℕ × Value)
field_entries f =
    (1, bytes f.name) ∷ [] ++ (3, number f.number) ∷ [] ++ (4, number (label_number f.label)) ∷ []
    ++ (5, number (type_number f.field_type)) ∷ []
    ++ text_entry 6 (type_name f.field_type) ++ settings_entry 8 f.options ++ index_entry 9 f.oneof_index
    ++ (10, bytes f.json_name) ∷ []
    ++ flag_entry 17 f.proto3_optional

pub read_field : (f : FieldDesc) → IsReadAs (field_desc_bytes f) (field_entries f)
read_field f = read_both (read_both (read_both (read_both (read_both (read_both (read_both (read_both
    (read_bytes 1 f.name) (read_number 3 f.number)) (read_number 4 (label_number f.label)))
    (read_number 5 (type_number f.field_type))) (read_text 6 (type_name f.field_type))) (read_settings 8 f.options))
    (read_index 9 f.oneof_index)) (read_bytes 10 f.json_name)) (read_flag 17 f.proto3_optional)

abbrev pub oneof_entries : OneofDesc → List (ℕ × Value)
oneof_entries o = (1, bytes o.name) ∷ []

pub read_oneof : (o : OneofDesc) → IsReadAs (oneof_desc_bytes o) (oneof_entries o)
read_oneof o = read_bytes 1 o.name

abbrev pub value_entries : ValueDesc → List (ℕ × Value)
value_entries v = (1, bytes v.name) ∷ [] ++ (2, number (low_bits v.number)) ∷ [] ++ settings_entry 3 v.options

pub read_value : (v : ValueDesc) → IsReadAs (value_desc_bytes v) (value_entries v)
read_value v =
    read_both (read_both (read_bytes 1 v.name) (read_number 2 (low_bits v.number))) (read_settings 3 v.options)

-- a text stands in a field as it is
abbrev pub itself : List ℕ → List ℕ
itself text = text

abbrev pub enum_entries : EnumDesc → List (ℕ × Value)
enum_entries e =
    (1, bytes e.name) ∷ [] ++ map (entry 2 value_desc_bytes) e.values ++ settings_entry 3 e.options
    ++ map (entry 4 enum_range_bytes) e.reserved_ranges ++ map (entry 5 itself) e.reserved_names

pub read_enum : (e : EnumDesc) → IsReadAs (enum_desc_bytes e) (enum_entries e)
read_enum e = read_both (read_both (read_both (read_both (read_bytes 1 e.name) (read_each 2 value_desc_bytes e.values))
    (read_settings 3 e.options)) (read_each 4 enum_range_bytes e.reserved_ranges))
    (read_each 5 itself e.reserved_names)

abbrev pub method_entries : MethodDesc → List (ℕ × Value)
method_entries m =
    (1, bytes m.name) ∷ [] ++ (2, bytes (reference_text m.input)) ∷ [] ++ (3, bytes (reference_text m.output)) ∷ []
    ++ settings_entry 4 m.options ++ flag_entry 5 m.client_streaming ++ flag_entry 6 m.server_streaming

pub read_method : (m : MethodDesc) → IsReadAs (method_desc_bytes m) (method_entries m)
read_method m = read_both (read_both (read_both (read_both (read_both (read_bytes 1 m.name)
    (read_bytes 2 (reference_text m.input))) (read_bytes 3 (reference_text m.output))) (read_settings 4 m.options))
    (read_flag 5 m.client_streaming)) (read_flag 6 m.server_streaming)

abbrev pub service_entries : ServiceDesc → List (ℕ × Value)
service_entries s =
    (1, bytes s.name) ∷ [] ++ map (entry 2 method_desc_bytes) s.methods ++ settings_entry 3 s.options

pub read_service : (s : ServiceDesc) → IsReadAs (service_desc_bytes s) (service_entries s)
read_service s = read_both (read_both (read_bytes 1 s.name) (read_each 2 method_desc_bytes s.methods))
    (read_settings 3 s.options)

abbrev pub message_entries : MessageDesc → List (ℕ × Value)
message_entries m =
    (1, bytes (out-MessageDesc m).name) ∷ [] ++ map (entry 2 field_desc_bytes) (out-MessageDesc m).fields
    ++ map (entry 3 message_desc_bytes) (out-MessageDesc m).nested
    ++ map (entry 4 enum_desc_bytes) (out-MessageDesc m).enums
    ++ options_entry 7 (message_options_bytes (out-MessageDesc m).options (out-MessageDesc m).is_map_entry)
    ++ map (entry 8 oneof_desc_bytes) (out-MessageDesc m).oneofs
    ++ map (entry 9 range_bytes) (out-MessageDesc m).reserved_ranges
    ++ map (entry 10 itself) (out-MessageDesc m).reserved_names

-- the bytes of a message, by those of the messages in it
pub message_bytes : (m : MessageDesc) → message_desc_bytes m
    ≡ bytes_field 1 (out-MessageDesc m).name
    ++ flat_map (λ f. bytes_field 2 (field_desc_bytes f)) (out-MessageDesc m).fields
    ++ flat_map (λ n. bytes_field 3 (message_desc_bytes n)) (out-MessageDesc m).nested
    ++ flat_map (λ e. bytes_field 4 (enum_desc_bytes e)) (out-MessageDesc m).enums
    ++ options_field 7 (message_options_bytes (out-MessageDesc m).options (out-MessageDesc m).is_map_entry)
    ++ flat_map (λ o. bytes_field 8 (oneof_desc_bytes o)) (out-MessageDesc m).oneofs
    ++ flat_map (λ r. bytes_field 9 (range_bytes r)) (out-MessageDesc m).reserved_ranges
    ++ flat_map (bytes_field 10) (out-MessageDesc m).reserved_names
message_bytes m = fold_out-MessageDesc (List ℕ) message_step m
    ∙ ap (λ nested. bytes_field 1 (out-MessageDesc m).name
    ++ flat_map (λ f. bytes_field 2 (field_desc_bytes f)) (out-MessageDesc m).fields ++ nested
    ++ flat_map (λ e. bytes_field 4 (enum_desc_bytes e)) (out-MessageDesc m).enums
    ++ options_field 7 (message_options_bytes (out-MessageDesc m).options (out-MessageDesc m).is_map_entry)
    ++ flat_map (λ o. bytes_field 8 (oneof_desc_bytes o)) (out-MessageDesc m).oneofs
    ++ flat_map (λ r. bytes_field 9 (range_bytes r)) (out-MessageDesc m).reserved_ranges
    ++ flat_map (bytes_field 10) (out-MessageDesc m).reserved_names)
    (flat_map-map (bytes_field 3) message_desc_bytes (out-MessageDesc m).nested)

pub read_message : (m : MessageDesc) → IsReadAs (message_desc_bytes m) (message_entries m)
read_message m =
    let body = out-MessageDesc m in
    rw (message_bytes m) (read_both (read_both (read_both (read_both (read_both (read_both (read_both
    (read_bytes 1 body.name) (read_each 2 field_desc_bytes body.fields)) (read_each 3 message_desc_bytes body.nested))
    (read_each 4 enum_desc_bytes body.enums)) (read_options 7 (message_options_bytes body.options body.is_map_entry)))
    (read_each 8 oneof_desc_bytes body.oneofs)) (read_each 9 range_bytes body.reserved_ranges))
    (read_each 10 itself body.reserved_names))

abbrev pub import_path : ImportDescriptor → List ℕ
import_path i = i.path

abbrev pub file_entries : FileDesc → List (ℕ × Value)
file_entries f =
    (1, bytes f.name) ∷ [] ++ text_entry 2 (package_name f.«package») ++ map (entry 3 import_path) f.imports
    ++ map (entry 4 message_desc_bytes) f.messages ++ map (entry 5 enum_desc_bytes) f.enums
    ++ map (entry 6 service_desc_bytes) f.services ++ settings_entry 8 f.options ++ public_entries 0 f.imports
    ++ (12, bytes (codes "proto3")) ∷ []

pub read_file : (f : FileDesc) → IsReadAs (file_desc_bytes f) (file_entries f)
read_file f = read_both (read_both (read_both (read_both (read_both (read_both (read_both (read_both
    (read_bytes 1 f.name) (read_text 2 (package_name f.«package»))) (read_each 3 import_path f.imports))
    (read_each 4 message_desc_bytes f.messages)) (read_each 5 enum_desc_bytes f.enums))
    (read_each 6 service_desc_bytes f.services)) (read_settings 8 f.options)) (read_publics 0 f.imports))
    (read_bytes 12 (codes "proto3"))

-- ---- the texts of one number among them

pub record HasTexts (w : ℕ) (fs : List (ℕ × Value)) (ts : List (List ℕ)) : Type 0 where
  pub is : filter_map (text_in w) fs ≡ ts

-- in two parts, one behind the other
texts_both : {w : ℕ} {xs ys : List (ℕ × Value)} {ts us : List (List ℕ)} → HasTexts w xs ts → HasTexts w ys us
    → HasTexts w (xs ++ ys) (ts ++ us)
texts_both {w = w} {xs = xs} {ys = ys} first second = record {
  is = filter_map-append (text_in w) xs ys ∙ ap₂ (λ (ts us : List (List ℕ)). ts ++ us) first.is second.is;
}

no_texts : (w n : ℕ) (text : List ℕ) → (n == w) ≡ false → HasTexts w ((n, bytes text) ∷ []) []
no_texts w n text other = record { is = rw other refl }

one_text : (n : ℕ) (text : List ℕ) → (n == n) ≡ true → HasTexts n ((n, bytes text) ∷ []) (text ∷ [])
one_text n text same = record { is = rw same refl }

no_number : (w n v : ℕ) → HasTexts w ((n, number v) ∷ []) []
no_number w n v = record { is = refl }

no_text : (w n : ℕ) (o : Option (List ℕ)) → (n == w) ≡ false → HasTexts w (text_entry n o) []
no_text w n None other = record { is = refl }
no_text w n (Some text) other = no_texts w n text other

no_index : (w n : ℕ) (o : Option ℕ) → HasTexts w (index_entry n o) []
no_index w n None = record { is = refl }
no_index w n (Some index) = record { is = refl }

no_flag : (w n : ℕ) (b : Bool) → HasTexts w (flag_entry n b) []
no_flag w n true = record { is = refl }
no_flag w n false = record { is = refl }

no_options : (w n : ℕ) (text : List ℕ) → (n == w) ≡ false → HasTexts w (options_entry n text) []
no_options w n [] other = record { is = refl }
no_options w n (b ∷ bs) other = no_texts w n (b ∷ bs) other

no_settings : (w n : ℕ) (os : List OptionDescriptor) → (n == w) ≡ false → HasTexts w (settings_entry n os) []
no_settings w n os other = no_options w n (flat_map option_bytes os) other

no_each : {X : Type 0} (w n : ℕ) (f : X → List ℕ) (xs : List X) → (n == w) ≡ false → HasTexts w (map (entry n f) xs) []
no_each w n f [] other = record { is = refl }
no_each w n f (x ∷ xs) other = texts_both (no_texts w n (f x) other) (no_each w n f xs other)

pub each_text : {X : Type 0} (n : ℕ) (f : X → List ℕ) (xs : List X) → (n == n) ≡ true
    → HasTexts n (map (entry n f) xs) (map f xs)
each_text n f [] same = record { is = refl }
each_text n f (x ∷ xs) same = texts_both (one_text n (f x) same) (each_text n f xs same)

no_public : (w : ℕ) (b : Bool) (position : ℕ) → HasTexts w (public_entry b position) []
no_public w true position = record { is = refl }
no_public w false position = record { is = refl }

no_publics : (w position : ℕ) (is : List ImportDescriptor) → HasTexts w (public_entries position is) []
no_publics w position [] = record { is = refl }
no_publics w position (i ∷ is) = texts_both (no_public w i.is_public position) (no_publics w (position + 1) is)

-- ---- the name of each message

named : (w : ℕ) (fs : List (ℕ × Value)) (text : List ℕ) → HasTexts w fs (text ∷ []) → text_of w fs ≡ text
named w fs text has = ap (last_of []) has.is

pub field_name : (f : FieldDesc) → text_of 1 (field_entries f) ≡ f.name
field_name f = named 1 (field_entries f) f.name (texts_both (texts_both (texts_both (texts_both (texts_both
    (texts_both (texts_both (texts_both (one_text 1 f.name refl) (no_number 1 3 f.number))
    (no_number 1 4 (label_number f.label))) (no_number 1 5 (type_number f.field_type)))
    (no_text 1 6 (type_name f.field_type) refl)) (no_settings 1 8 f.options refl)) (no_index 1 9 f.oneof_index))
    (no_texts 1 10 f.json_name refl)) (no_flag 1 17 f.proto3_optional))

pub value_name : (v : ValueDesc) → text_of 1 (value_entries v) ≡ v.name
value_name v = named 1 (value_entries v) v.name (texts_both (texts_both (one_text 1 v.name refl)
    (no_number 1 2 (low_bits v.number))) (no_settings 1 3 v.options refl))

pub enum_name : (e : EnumDesc) → text_of 1 (enum_entries e) ≡ e.name
enum_name e = named 1 (enum_entries e) e.name (texts_both (texts_both (texts_both (texts_both
    (one_text 1 e.name refl) (no_each 1 2 value_desc_bytes e.values refl)) (no_settings 1 3 e.options refl))
    (no_each 1 4 enum_range_bytes e.reserved_ranges refl)) (no_each 1 5 itself e.reserved_names refl))

pub method_name : (m : MethodDesc) → text_of 1 (method_entries m) ≡ m.name
method_name m = named 1 (method_entries m) m.name (texts_both (texts_both (texts_both (texts_both (texts_both
    (one_text 1 m.name refl) (no_texts 1 2 (reference_text m.input) refl))
    (no_texts 1 3 (reference_text m.output) refl)) (no_settings 1 4 m.options refl))
    (no_flag 1 5 m.client_streaming)) (no_flag 1 6 m.server_streaming))

pub service_name : (s : ServiceDesc) → text_of 1 (service_entries s) ≡ s.name
service_name s = named 1 (service_entries s) s.name (texts_both (texts_both (one_text 1 s.name refl)
    (no_each 1 2 method_desc_bytes s.methods refl)) (no_settings 1 3 s.options refl))

pub message_name : (m : MessageDesc) → text_of 1 (message_entries m) ≡ (out-MessageDesc m).name
message_name m =
    let body = out-MessageDesc m in
    named 1 (message_entries m) body.name (texts_both (texts_both (texts_both (texts_both (texts_both (texts_both
    (texts_both (one_text 1 body.name refl) (no_each 1 2 field_desc_bytes body.fields refl))
    (no_each 1 3 message_desc_bytes body.nested refl)) (no_each 1 4 enum_desc_bytes body.enums refl))
    (no_options 1 7 (message_options_bytes body.options body.is_map_entry) refl))
    (no_each 1 8 oneof_desc_bytes body.oneofs refl)) (no_each 1 9 range_bytes body.reserved_ranges refl))
    (no_each 1 10 itself body.reserved_names refl))

-- ---- the head of a file

abbrev package_texts : Option PackageDescriptor → List (List ℕ)
package_texts None = []
package_texts (Some p) = p.name ∷ []

last_package : (p : Option PackageDescriptor)
    → last_of [] (package_texts p ++ [] ++ [] ++ [] ++ [] ++ [] ++ [] ++ []) ≡ file_scope p
last_package None = refl
last_package (Some p) = refl

module _ (f : FileDesc) where
  -- the texts of a number are those of the first three parts
  behind : (w : ℕ) {ts us vs : List (List ℕ)} → (4 == w) ≡ false → (5 == w) ≡ false → (6 == w) ≡ false
      → (8 == w) ≡ false → (12 == w) ≡ false → HasTexts w ((1, bytes f.name) ∷ []) ts
      → HasTexts w (text_entry 2 (package_name f.«package»)) us → HasTexts w (map (entry 3 import_path) f.imports) vs
      → HasTexts w (file_entries f) (ts ++ us ++ vs ++ [] ++ [] ++ [] ++ [] ++ [] ++ [])
  behind w four five six eight twelve name own paths = texts_both (texts_both (texts_both (texts_both (texts_both
      (texts_both (texts_both (texts_both name own) paths) (no_each w 4 message_desc_bytes f.messages four))
      (no_each w 5 enum_desc_bytes f.enums five)) (no_each w 6 service_desc_bytes f.services six))
      (no_settings w 8 f.options eight)) (no_publics w 0 f.imports)) (no_texts w 12 (codes "proto3") twelve)

  pub file_name_is : text_of 1 (file_entries f) ≡ f.name
  file_name_is = named 1 (file_entries f) f.name (behind 1 refl refl refl refl refl (one_text 1 f.name refl)
      (no_text 1 2 (package_name f.«package») refl) (no_each 1 3 import_path f.imports refl))

  pub paths_are : filter_map (text_in 3) (file_entries f) ≡ map import_path f.imports
  paths_are = (behind 3 refl refl refl refl refl (no_texts 3 1 f.name refl)
      (no_text 3 2 (package_name f.«package») refl) (each_text 3 import_path f.imports refl)).is
      ∙ simp append-nil refl

own_package : (p : Option PackageDescriptor) → HasTexts 2 (text_entry 2 (package_name p)) (package_texts p)
own_package None = record { is = refl }
own_package (Some p) = one_text 2 p.name refl

pub package_is : (f : FileDesc) → text_of 2 (file_entries f) ≡ file_scope f.«package»
package_is f = ap (last_of []) (behind f 2 refl refl refl refl refl (no_texts 2 1 f.name refl)
    (own_package f.«package») (no_each 2 3 import_path f.imports refl)).is ∙ last_package f.«package»

-- ---- the numbers of one number among them

pub record HasNumbers (w : ℕ) (fs : List (ℕ × Value)) (ns : List ℕ) : Type 0 where
  pub is : filter_map (number_in w) fs ≡ ns

numbers_both : {w : ℕ} {xs ys : List (ℕ × Value)} {ns ms : List ℕ} → HasNumbers w xs ns → HasNumbers w ys ms
    → HasNumbers w (xs ++ ys) (ns ++ ms)
numbers_both {w = w} {xs = xs} {ys = ys} first second = record {
  is = filter_map-append (number_in w) xs ys ∙ ap₂ (λ (ns ms : List ℕ). ns ++ ms) first.is second.is;
}

no_text_numbers : (w n : ℕ) (o : Option (List ℕ)) → HasNumbers w (text_entry n o) []
no_text_numbers w n None = record { is = refl }
no_text_numbers w n (Some text) = record { is = refl }

no_option_numbers : (w n : ℕ) (text : List ℕ) → HasNumbers w (options_entry n text) []
no_option_numbers w n [] = record { is = refl }
no_option_numbers w n (b ∷ bs) = record { is = refl }

no_each_numbers : {X : Type 0} (w n : ℕ) (f : X → List ℕ) (xs : List X) → HasNumbers w (map (entry n f) xs) []
no_each_numbers w n f [] = record { is = refl }
no_each_numbers w n f (x ∷ xs) = record { is = (no_each_numbers w n f xs).is }

-- the positions of the public imports, of which the first import has this one
abbrev pub position_of : Bool → ℕ → List ℕ
position_of true k = k ∷ []
position_of false k = []

abbrev pub positions_from : ℕ → List ImportDescriptor → List ℕ
positions_from k [] = []
positions_from k (i ∷ is) = position_of i.is_public k ++ positions_from (k + 1) is

public_number : (b : Bool) (k : ℕ) → HasNumbers 10 (public_entry b k) (position_of b k)
public_number true k = record { is = refl }
public_number false k = record { is = refl }

public_numbers : (k : ℕ) (is : List ImportDescriptor) → HasNumbers 10 (public_entries k is) (positions_from k is)
public_numbers k [] = record { is = refl }
public_numbers k (i ∷ is) = numbers_both (public_number i.is_public k) (public_numbers (k + 1) is)

pub publics_are : (f : FileDesc) → filter_map (number_in 10) (file_entries f) ≡ positions_from 0 f.imports
publics_are f =
    let name : HasNumbers 10 ((1, bytes f.name) ∷ []) [] = record { is = refl } in
    let syntax : HasNumbers 10 ((12, bytes (codes "proto3")) ∷ []) [] = record { is = refl } in
    (numbers_both (numbers_both (numbers_both (numbers_both (numbers_both (numbers_both (numbers_both (numbers_both
    name (no_text_numbers 10 2 (package_name f.«package»))) (no_each_numbers 10 3 import_path f.imports))
    (no_each_numbers 10 4 message_desc_bytes f.messages)) (no_each_numbers 10 5 enum_desc_bytes f.enums))
    (no_each_numbers 10 6 service_desc_bytes f.services))
    (no_option_numbers 10 8 (flat_map option_bytes f.options))) (public_numbers 0 f.imports)) syntax).is
    ∙ append-nil (positions_from 0 f.imports)
