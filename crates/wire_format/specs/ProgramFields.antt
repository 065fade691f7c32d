-- The fields of the program.
use Rattle.std.specs.Prelude.{ℕ, List}
use Rattle.wire_format.specs.declared.field.FieldValue.{FieldValue}
use Rattle.wire_format.specs.declared.field.FieldValue.TheVariants.{Varint, Delimited}
use Rattle.wire_format.specs.Field.{number_field, bytes_field}
use Rattle.wire_format.specs.declared.reading.Field.{Field}
use Rattle.wire_format.specs.Reading.{Value, number, bytes}

-- a field as it is written
abbrev pub field_bytes : ℕ → FieldValue → List ℕ
field_bytes n (Varint value) = number_field n value
field_bytes n (Delimited contents) = bytes_field n contents.now

-- a field as it is read
abbrev pub value_of : FieldValue → Value
value_of (Varint value) = number value
value_of (Delimited contents) = bytes contents.now

abbrev pub field_of : Field → ℕ × Value
field_of field = (field.number, value_of field.value)
