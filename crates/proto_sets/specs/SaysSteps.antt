-- Words for the contracts of the private functions. They are no part of the definition.
use Rattle.std.specs.Prelude.{◌≡◌, ◌⊎◌, ℕ, List, map, Option, Some, None, IsUtf8}
use Rattle.proto_sets.specs.Elements.{element_in, text_of}
use Rattle.proto_sets.specs.Says.{ExtensionAt}
use Rattle.proto_sets.specs.declared.element.Element.{Element}
use Rattle.proto_sets.specs.declared.extension.Extension.{Extension}
use Rattle.proto_sets.specs.declared.reading.ReadElement.{ReadElement}
use Rattle.wire_format.specs.ProgramFields.{field_of}
use Rattle.wire_format.specs.Reading.{Value, number, bytes, IsRow}

-- an extension of the program
abbrev pub extension_of : Extension → ExtensionAt
extension_of e = record { extendee = e.extendee.now; number = e.number; file = e.file }

-- what a field holds, where it holds an element: it is spelled so, and has a name
abbrev pub HeldIn : Option Element → ℕ × Value → Element → List ℕ → Type 0
HeldIn holder (n, number value) element text = ⊥
HeldIn holder (n, bytes contents) element text = (element_in holder n ≡ Some element) × (contents ≡ text)

pub record IsRead (holder : Option Element) (field : ℕ × Value) (element : Element) (fields : List (ℕ × Value)) : Type 0 where
  pub text : List ℕ
  pub held : HeldIn holder field element text
  pub row : IsRow text fields
  pub utf8 : IsUtf8 (text_of 1 fields)

-- a field holds no element
abbrev pub HoldsNone : Option Element → ℕ × Value → Type 0
HoldsNone holder (n, number value) = Unit {0}
HoldsNone holder (n, bytes contents) = element_in holder n ≡ None

-- a field holds none, or one that can be read
abbrev pub IsReadable : Option Element → ℕ × Value → Type 0
IsReadable holder field = HoldsNone holder field
    ⊎ ((element : Element) × (fields : List (ℕ × Value)) × IsRead holder field element fields)

-- the element in a field, or that it holds none
abbrev pub IsReadElement : Option Element → ℕ × Value → Option ReadElement → Type 0
IsReadElement holder field None = HoldsNone holder field
IsReadElement holder field (Some e) =
    IsRead holder field e.element (map field_of e.fields.items) × (e.name.now ≡ text_of 1 (map field_of e.fields.items))
