-- The settings of a file that breaks no rule: none has a name that goes.
use Rattle.std.specs.Prelude.{◌≡◌, ℕ, suc, Bool, true, false, not, List, [], ◌∷◌, flat_map, cond, bytes_eq, option_map, unwrap_or}
use Rattle.std.proofs.Common.{refl, arith, inl, inr}
use Rattle.std.proofs.lemmas.Slice.Eq.{bytes_eq-Decides}
use Rattle.std.specs.List.{AllByRecursion}
use Rattle.proto_base.specs.Sets.{Each}
use Rattle.proto_base.specs.declared.kind.Kind.TheVariants as kind
use Rattle.proto_base.specs.declared.limits.Limits.{Limits}
use Rattle.proto_base.specs.declared.spot.Spot.{Spot}
use Rattle.proto_base.specs.Least.{spot}
use Rattle.proto_checks.specs.Checks.{FileBreaks}
use Rattle.proto_checks.specs.Elements.{BodyBreaks, EnumBreaks, MessageBreaks, OneofBreaks, RpcBreaks, ServiceBreaks, ValueBreaks, bodies}
use Rattle.proto_checks.specs.Options.{FieldOptionsBreak, IsUnknown, OptionedField, SettingBreaks, SettingsBreak, name_place, optioned_fields}
use Rattle.proto_desc.specs.Rules.{Rule, rules_of}
use Rattle.proto_desc.specs.declared.rules.Element.{Element}
use Rattle.proto_desc.specs.declared.rules.Element.TheVariants as element
use Rattle.proto_file.proofs.PlacesWithin.{split}
use Rattle.proto_file.proofs.Spots.{standing}
use Rattle.proto_lower.specs.Files.{lowered}
use Rattle.proto_options.specs.Options.{bracketed, enum_setting, file_setting, is_setting, message_setting, oneof_setting, rpc_setting, service_setting}
use Rattle.proto_options.specs.Statements.{enum_value, file_enum, file_message, file_service, message_enum, message_oneof, rpc_items, service_rpc}
use Rattle.proto_syntax.specs.Grammar.{NoneOf, among, fits}
use Rattle.proto_tokens.specs.Token.{identifier}
use Rattle.proto_tree.specs.Name.{Identifier}
use Rattle.proto_tree.specs.Text.{simple_name}
use Rattle.proto_tree.specs.declared.enumeration.Enum.{Enum}
use Rattle.proto_tree.specs.declared.enumeration.EnumValue.{EnumValue}
use Rattle.proto_tree.specs.declared.file.FileTree.{FileTree}
use Rattle.proto_tree.specs.declared.message.Message.{Message}
use Rattle.proto_tree.specs.declared.message.MessageItem.{MessageItem}
use Rattle.proto_tree.specs.declared.name.NamePart.{NamePart}
use Rattle.proto_tree.specs.declared.oneof.Oneof.{Oneof}
use Rattle.proto_tree.specs.declared.option.Setting.{Setting}
use Rattle.proto_tree.specs.declared.service.Rpc.{Rpc}
use Rattle.proto_tree.specs.declared.service.Service.{Service}
use Rattle.skipping_laws.proofs.Written.{gone_names}

-- ---- what is known

abbrev pub Known : Setting → Type 0
Known s = fits (NoneOf gone_names) (identifier s.name.first.text) ≡ true

abbrev pub AllKnown : List Setting → Type 0
AllKnown ss = AllByRecursion Known ss

abbrev pub FieldKnown : OptionedField → Type 0
FieldKnown f = AllKnown (bracketed f.declarator.options)

abbrev pub OneofKnown : Oneof → Type 0
OneofKnown o = AllKnown (flat_map oneof_setting o.items)

abbrev pub ValueKnown : EnumValue → Type 0
ValueKnown v = AllKnown (bracketed v.options)

abbrev pub EnumKnown : Enum → Type 0
EnumKnown e = AllKnown (flat_map enum_setting e.items) × AllByRecursion ValueKnown (flat_map enum_value e.items)

abbrev pub RpcKnown : Rpc → Type 0
RpcKnown r = AllKnown (flat_map rpc_setting (rpc_items r.body))

abbrev pub ServiceKnown : Service → Type 0
ServiceKnown s = AllKnown (flat_map service_setting s.items) × AllByRecursion RpcKnown (flat_map service_rpc s.items)

-- the statements of one message
pub record BodyKnown (items : List MessageItem) : Type 0 where
  pub settings : AllKnown (flat_map message_setting items)
  pub fields : AllByRecursion FieldKnown (flat_map optioned_fields items)
  pub oneofs : AllByRecursion OneofKnown (flat_map message_oneof items)
  pub enums : AllByRecursion EnumKnown (flat_map message_enum items)

abbrev pub MessageKnown : Message → Type 0
MessageKnown m = AllByRecursion BodyKnown (bodies m.items)

pub record FileKnown (file : FileTree) : Type 0 where
  pub settings : AllKnown (flat_map file_setting file.statements)
  pub messages : AllByRecursion MessageKnown (flat_map file_message file.statements)
  pub enums : AllByRecursion EnumKnown (flat_map file_enum file.statements)
  pub services : AllByRecursion ServiceKnown (flat_map file_service file.statements)

-- ---- sets without a spot

abbrev Empty : (Spot → Type 0) → Type 0
Empty S = (x : Spot) → S x → ⊥

each_empty : {X : Type 0} (S : X → Spot → Type 0) (K : X → Type 0) → ((a : X) → Empty (S a) → K a) → (xs : List X)
    → Empty (Each xs S) → AllByRecursion K xs
each_empty S K h [] none = tt
each_empty S K h (a ∷ rest) none = (
  h a (λ x s. none x (0, a, (omega arith, refl), s)),
  each_empty S K h rest (λ x (i, b, at, s). none x (suc i, b, (omega (arith, at.0), at.1), s)),
)

-- what holds of all parts of elements holds of those of each
pub parts_known : {A B : Type 0} (P : B → Type 0) (g : A → List B) (xs : List A) → AllByRecursion P (flat_map g xs)
    → AllByRecursion (λ x. AllByRecursion P (g x)) xs
parts_known P g [] all = tt
parts_known P g (x ∷ xs) all = let r = split P (g x) (flat_map g xs) all in (r.0, parts_known P g xs r.1)

-- ---- a name that goes is that of no option

abbrev all_other : List Rule → Bool
all_other [] = true
all_other (r ∷ rs) = cond (among r.word gone_names) false (all_other rs)

others : (e : Element) → all_other (rules_of e) ≡ true
others element.File = refl
others element.Message = refl
others element.Field = refl
others element.Oneof = refl
others element.Enum = refl
others element.EnumValue = refl
others element.Service = refl
others element.Method = refl

other_by : (b c : Bool) → cond b false c ≡ true → (b ≡ false) × (c ≡ true)
other_by true c h = cc
other_by false c h = (refl, h)

abbrev IsOther : Rule → Type 0
IsOther r = among r.word gone_names ≡ false

other_rules : (rs : List Rule) → all_other rs ≡ true → AllByRecursion IsOther rs
other_rules [] h = tt
other_rules (r ∷ rs) h = let k = other_by (among r.word gone_names) (all_other rs) h in (k.0, other_rules rs k.1)

named_by : (rest : List NamePart) (first : Identifier) (word : List ℕ)
    → unwrap_or (option_map (λ name. bytes_eq name word) (simple_name rest first)) false ≡ true → first.text ≡ word
named_by [] first word h = (bytes_eq-Decides first.text word).0 h
named_by (p ∷ ps) first word h = cc

unknown_by : (b : Bool) (w word : List ℕ) → among w gone_names ≡ true → among word gone_names ≡ false
    → (b ≡ true → w ≡ word) → b ≡ false
unknown_by true w word h k e = let p = e refl in cc
unknown_by false w word h k e = refl

gone_unknown : (e : Element) (s : Setting) → among s.name.first.text gone_names ≡ true → IsUnknown e s
gone_unknown e s h r has = unknown_by (is_setting r.word s) s.name.first.text r.word h
    (standing IsOther (rules_of e) has.0 r (other_rules (rules_of e) (others e)) (has.1, has.2))
    (named_by s.name.rest s.name.first r.word)

known_by : (b : Bool) → (b ≡ true → ⊥) → not b ≡ true
known_by true h = absurd (h refl)
known_by false h = refl

setting_known : (e : Element) (s : Setting) → Empty (SettingBreaks e s) → Known s
setting_known e s none = known_by (among s.name.first.text gone_names)
    (λ h. none (spot (name_place s) kind.UnknownOption) (inl (gone_unknown e s h, refl)))

-- ---- the parts of a file

settings_known : (e : Element) (ss : List Setting) → Empty (SettingsBreak e ss) → AllKnown ss
settings_known e ss none = each_empty (SettingBreaks e) Known (setting_known e) ss (λ x b. none x (inl b))

field_known : (f : OptionedField) → Empty (FieldOptionsBreak f) → FieldKnown f
field_known f none = settings_known element.Field (bracketed f.declarator.options) (λ x b. none x (inr b))

oneof_known : (o : Oneof) → Empty (OneofBreaks o) → OneofKnown o
oneof_known o none = settings_known element.Oneof (flat_map oneof_setting o.items) (λ x b. none x (inr b))

value_known : (v : EnumValue) → Empty (ValueBreaks v) → ValueKnown v
value_known v none = settings_known element.EnumValue (bracketed v.options) none

enum_known : (e : Enum) → Empty (EnumBreaks e) → EnumKnown e
enum_known e none = (
  settings_known element.Enum (flat_map enum_setting e.items) (λ x b. none x (inl (inr b))),
  each_empty ValueBreaks ValueKnown value_known (flat_map enum_value e.items) (λ x b. none x (inr b)),
)

rpc_known : (r : Rpc) → Empty (RpcBreaks r) → RpcKnown r
rpc_known r none = settings_known element.Method (flat_map rpc_setting (rpc_items r.body)) none

service_known : (s : Service) → Empty (ServiceBreaks s) → ServiceKnown s
service_known s none = (
  settings_known element.Service (flat_map service_setting s.items) (λ x b. none x (inl b)),
  each_empty RpcBreaks RpcKnown rpc_known (flat_map service_rpc s.items) (λ x b. none x (inr b)),
)

body_known : (items : List MessageItem) → Empty (BodyBreaks items) → BodyKnown items
body_known items none = record {
  settings = settings_known element.Message (flat_map message_setting items) (λ x b. none x (inl (inr b)));
  fields = each_empty FieldOptionsBreak FieldKnown field_known (flat_map optioned_fields items)
      (λ x b. none x (inr (inl (inl b))));
  oneofs = each_empty OneofBreaks OneofKnown oneof_known (flat_map message_oneof items)
      (λ x b. none x (inr (inl (inr b))));
  enums = each_empty EnumBreaks EnumKnown enum_known (flat_map message_enum items) (λ x b. none x (inr (inr b)));
}

message_known : (m : Message) → Empty (MessageBreaks m) → MessageKnown m
message_known m none = each_empty BodyBreaks BodyKnown body_known (bodies m.items) none

pub file_known : (limits : Limits) (name : List ℕ) (file : FileTree)
    → Empty (FileBreaks limits file (lowered name file)) → FileKnown file
unfolding FileBreaks
file_known limits name file none = record {
  settings = settings_known element.File (flat_map file_setting file.statements)
      (λ x b. none x (inl (inl (inl (inr b)))));
  messages = each_empty MessageBreaks MessageKnown message_known (flat_map file_message file.statements)
      (λ x b. none x (inl (inl (inr (inl (inl b))))));
  enums = each_empty EnumBreaks EnumKnown enum_known (flat_map file_enum file.statements)
      (λ x b. none x (inl (inl (inr (inl (inr b))))));
  services = each_empty ServiceBreaks ServiceKnown service_known (flat_map file_service file.statements)
      (λ x b. none x (inl (inl (inr (inr b)))));
}
