-- Bytes as a row of spelled fields, by the encoding guide of Protocol Buffers.
use Rattle.std.specs.Prelude.{◌≡◌, ℕ, ◌+◌, ◌*◌, ◌^◌, ◌<◌, ◌≤◌, List, ◌++◌, length, Option, Some, None, flat_map}
use Rattle.std.specs.List.{AllByRecursion, filter_map}
use Rattle.wire_format.specs.Varint.{Spells}

-- what a field holds: a number, or the bytes of a text or a message
pub data Value : Type 0 where
  number : ℕ → Value
  bytes : List ℕ → Value

-- A varint that is read. Longer spellings than needed count, of at most ten bytes. Below 2 ^ 64 says that a tenth byte
-- is at most 1.
pub record IsVarint (text : List ℕ) (n : ℕ) : Type 0 where
  pub spelled : Spells text n
  pub short : length text ≤ 10
  pub fits : n < 2 ^ 64

-- a field's value as it is spelled
pub data Body : Type 0 where
  varint_body : (text : List ℕ) → (value : ℕ) → Body
  eight_bytes : (text : List ℕ) → Body
  delimited : (size : List ℕ) → (contents : List ℕ) → Body
  four_bytes : (text : List ℕ) → Body

-- groups have wire types 3 and 4, and are no fields here
abbrev pub wire_type : Body → ℕ
wire_type (varint_body text value) = 0
wire_type (eight_bytes text) = 1
wire_type (delimited size contents) = 2
wire_type (four_bytes text) = 5

abbrev pub body_text : Body → List ℕ
body_text (varint_body text value) = text
body_text (eight_bytes text) = text
body_text (delimited size contents) = size ++ contents
body_text (four_bytes text) = text

abbrev pub IsBody : Body → Type 0
IsBody (varint_body text value) = IsVarint text value
IsBody (eight_bytes text) = length text ≡ 8
IsBody (delimited size contents) = IsVarint size (length contents)
IsBody (four_bytes text) = length text ≡ 4

-- a field as it is spelled
pub record Spelled : Type 0 where
  pub tag : List ℕ
  pub number : ℕ
  pub body : Body

abbrev pub text_of : Spelled → List ℕ
text_of field = field.tag ++ body_text field.body

-- a tag is a varint below 2 ^ 32: 8 times the field's number, which isn't 0, and the wire type
pub record IsSpelled (field : Spelled) : Type 0 where
  pub tag : IsVarint field.tag (field.number * 8 + wire_type field.body)
  pub small : field.number * 8 + wire_type field.body < 2 ^ 32
  pub positive : 0 < field.number
  pub body : IsBody field.body

-- values of eight and of four bytes are read over
abbrev pub entry_by : ℕ → Body → Option (ℕ × Value)
entry_by n (varint_body text value) = Some (n, number value)
entry_by n (eight_bytes text) = None
entry_by n (delimited size contents) = Some (n, bytes contents)
entry_by n (four_bytes text) = None

abbrev pub entry_of : Spelled → Option (ℕ × Value)
entry_of field = entry_by field.number field.body

-- bytes that are a row of spelled fields, and the list of numbers and values that these hold
abbrev pub IsRow : List ℕ → List (ℕ × Value) → Type 0
IsRow text fields = (row : List Spelled) × AllByRecursion IsSpelled row × (text ≡ flat_map text_of row)
    × (fields ≡ filter_map entry_of row)
