-- Fields as they are written.
use Rattle.std.specs.Prelude.{ℕ, ◌+◌, ◌*◌, List, ◌++◌, length}
use Rattle.wire_format.specs.Varint.{varint_bytes}

-- a field whose value is a number: wire type 0
abbrev pub number_field : ℕ → ℕ → List ℕ
number_field number value = varint_bytes (number * 8) ++ varint_bytes value

-- a field whose value is text, bytes or a message: wire type 2, the length, the bytes
abbrev pub bytes_field : ℕ → List ℕ → List ℕ
bytes_field number bytes = varint_bytes (number * 8 + 2) ++ varint_bytes (length bytes) ++ bytes
