-- What the bytes of a file's descriptor say: the names that it declares, and its extensions, by descriptor.proto and the
-- encoding guide of Protocol Buffers, whatever the file's language is.
use Rattle.std.specs.Prelude.{◌≡◌, ℕ, zero, suc, List, [], ◌∷◌, ◌++◌, ◌%◌, ◌^◌, Option, Some, None, MatchOption, IsUtf8}
use Rattle.proto_base.specs.declared.place.Place.{Place}
use Rattle.proto_desc.specs.DeclaredNames.{Declared}
use Rattle.proto_names.specs.Occurrences.{Occurrence, declared_occurrence}
use Rattle.proto_sets.specs.Elements.{element_in, kind_of, number_of, scope_inside, text_of}
use Rattle.proto_sets.specs.declared.element.Element.{Element}
use Rattle.proto_sets.specs.declared.element.Element.TheVariants.{Extension}
use Rattle.wire_format.specs.Reading.{Value, number, bytes, IsRow}

-- what an extension extends: the message, as the file names it, and its number there
pub record Extended : Type 0 where
  pub extendee : List ℕ
  pub number : ℕ

-- an element that a file declares; descriptors have no places, so all stand at the first byte
pub record Said : Type 0 where
  pub declared : Declared
  pub extends : Option Extended

abbrev pub start : Place
start = record { offset = 0 }

-- `extendee` = 2 and `number` = 3, an `int32`
abbrev pub extends_by : Element → List (ℕ × Value) → Option Extended
extends_by Extension fields = Some (record { extendee = text_of 2 fields; number = number_of 3 fields % 2 ^ 32 })
extends_by other fields = None

-- an element in a scope says its `name` = 1
abbrev pub said_by : Element → List ℕ → List (ℕ × Value) → Said
said_by element scope fields = record {
  declared = record { scope = scope; name = text_of 1 fields; kind = kind_of element; place = start };
  extends = extends_by element fields;
}

-- an element that is spelled so says its own name, which is UTF-8, and then what stands in it
pub record IsElement (Inside : Option Element → List ℕ → List (ℕ × Value) → List Said → Type 0) (element : Element)
    (scope text : List ℕ) (said : List Said) : Type 0 where
  pub fields : List (ℕ × Value)
  pub row : IsRow text fields
  pub utf8 : IsUtf8 (text_of 1 fields)
  pub inner : List Said
  pub inside : Inside (Some element) (scope_inside element scope (text_of 1 fields)) fields inner
  pub all : said ≡ said_by element scope fields ∷ inner

-- a field that holds an element says what this does; any other field says nothing
abbrev pub FieldSays : (Option Element → List ℕ → List (ℕ × Value) → List Said → Type 0) → Option Element → List ℕ
    → ℕ × Value → List Said → Type 0
FieldSays Inside holder scope (n, number value) said = said ≡ []
FieldSays Inside holder scope (n, bytes text) said =
    MatchOption (element_in holder n) (said ≡ []) (λ element. IsElement Inside element scope text said)

-- fields say what each of them says, one after the other
abbrev pub AllSay : (ℕ × Value → List Said → Type 0) → List (ℕ × Value) → List Said → Type 0
AllSay Says [] said = said ≡ []
AllSay Says (field ∷ fields) said = (first : List Said) × (rest : List Said) × Says field first
    × AllSay Says fields rest × (said ≡ first ++ rest)

-- what the fields of an element in a scope say, where fewer than so many elements stand around it
abbrev pub Inside : ℕ → Option Element → List ℕ → List (ℕ × Value) → List Said → Type 0
Inside zero holder scope fields said = ⊥
Inside (suc k) holder scope fields said = AllSay (FieldSays (Inside k) holder scope) fields said

-- what the fields of a file, or of an element, say, where at most so many elements stand within one another there
abbrev pub Say : ℕ → Option Element → List ℕ → List (ℕ × Value) → List Said → Type 0
Say depth holder scope fields said = AllSay (FieldSays (Inside depth) holder scope) fields said

-- ---- the same as occurrences of names in the file at a position, and as its extensions

abbrev pub said_occurrence : ℕ → Said → Occurrence
said_occurrence file said = declared_occurrence file said.declared

-- an extension of a message, in the file at a position
pub record ExtensionAt : Type 0 where
  pub extendee : List ℕ
  pub number : ℕ
  pub file : ℕ

abbrev pub extension_by : ℕ → Option Extended → Option ExtensionAt
extension_by file None = None
extension_by file (Some e) = Some (record { extendee = e.extendee; number = e.number; file = file })

abbrev pub said_extension : ℕ → Said → Option ExtensionAt
said_extension file said = extension_by file said.extends
