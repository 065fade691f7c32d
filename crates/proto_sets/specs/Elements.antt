-- The messages of descriptor.proto that declare a name, and the fields that hold them. Numbers are those of its fields.
use Rattle.std.specs.Prelude.{ℕ, List, [], ◌∷◌, if◌then◌else◌, ◌==◌, Option, Some, None}
use Rattle.std.specs.List.{filter_map}
use Rattle.proto_desc.specs.DeclaredNames.{scoped}
use Rattle.proto_desc.specs.declared.name_kind.NameKind.{NameKind}
use Rattle.proto_desc.specs.declared.name_kind.NameKind.TheVariants as kind
use Rattle.proto_sets.specs.declared.element.Element.{Element}
use Rattle.proto_sets.specs.declared.element.Element.TheVariants.{Message, Enumeration, Service, Method, Field, Extension, Oneof, Value as EnumValue}
use Rattle.wire_format.specs.Reading.{Value, number, bytes}

-- ---- fields of a message

-- the bytes of a text or of a message in a field of this number; the number in one
abbrev pub text_in : ℕ → ℕ × Value → Option (List ℕ)
text_in wanted (n, number value) = None
text_in wanted (n, bytes text) = if n == wanted then Some text else None

abbrev pub number_in : ℕ → ℕ × Value → Option ℕ
number_in wanted (n, number value) = if n == wanted then Some value else None
number_in wanted (n, bytes text) = None

-- the last of a list, or what stands for none
abbrev pub last_of : {A : Type 0} → A → List A → A
last_of none [] = none
last_of none (x ∷ xs) = last_of x xs

-- of a field that is not repeated the last counts; where there is none the text is empty, and the number is 0
abbrev pub text_of : ℕ → List (ℕ × Value) → List ℕ
text_of wanted fields = last_of [] (filter_map (text_in wanted) fields)

abbrev pub number_of : ℕ → List (ℕ × Value) → ℕ
number_of wanted fields = last_of 0 (filter_map (number_in wanted) fields)

-- ---- elements

-- what a field of this number holds: in a `FileDescriptorProto`, which is no element; in a `DescriptorProto`, an
-- `EnumDescriptorProto` and a `ServiceDescriptorProto`
abbrev pub element_in : Option Element → ℕ → Option Element
element_in None n =
    if n == 4 then Some Message else if n == 5 then Some Enumeration else if n == 6 then Some Service
    else if n == 7 then Some Extension else None
element_in (Some Message) n =
    if n == 2 then Some Field else if n == 3 then Some Message else if n == 4 then Some Enumeration
    else if n == 6 then Some Extension else if n == 8 then Some Oneof else None
element_in (Some Enumeration) n = if n == 2 then Some EnumValue else None
element_in (Some Service) n = if n == 2 then Some Method else None
element_in (Some other) n = None

-- an extension is a field
abbrev pub kind_of : Element → NameKind
kind_of Message = kind.Message
kind_of Enumeration = kind.Enum
kind_of Service = kind.Service
kind_of Method = kind.Method
kind_of Field = kind.Field
kind_of Extension = kind.Field
kind_of Oneof = kind.Oneof
kind_of EnumValue = kind.Value

-- the scope of what stands in an element of this name; the values of an enum stand beside it
abbrev pub scope_inside : Element → List ℕ → List ℕ → List ℕ
scope_inside Enumeration scope name = scope
scope_inside other scope name = scoped scope name
