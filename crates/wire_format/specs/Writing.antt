-- Fields that are written one after the other.
use Rattle.std.specs.Prelude.{ℕ, ◌<◌, ◌^◌, List, length, flat_map}
use Rattle.wire_format.specs.Field.{number_field, bytes_field}
use Rattle.wire_format.specs.Reading.{Value, number, bytes}

-- a varint has room for the value, or for the length of its bytes
abbrev pub FitsVarint : Value → Type 0
FitsVarint (number n) = n < 2 ^ 64
FitsVarint (bytes contents) = length contents < 2 ^ 64

-- a field that a message can hold: its number is from 1 to 2 ^ 29 - 1
pub record IsMessageField (field : ℕ × Value) : Type 0 where
  pub positive : 0 < field.0
  pub small : field.0 < 2 ^ 29
  pub fits : FitsVarint field.1

-- the bytes of a field: its tag, and its value
abbrev pub entry_bytes : ℕ × Value → List ℕ
entry_bytes (n, number value) = number_field n value
entry_bytes (n, bytes contents) = bytes_field n contents

-- the bytes of fields, one after the other
abbrev pub row_bytes : List (ℕ × Value) → List ℕ
row_bytes fields = flat_map entry_bytes fields
