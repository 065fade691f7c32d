-- What the private functions of the reader compute. It is no part of the definition of wire reading.
use Rattle.std.specs.Prelude.{ℕ, ◌+◌, ◌-◌, ◌*◌, ◌/◌, ◌%◌, ◌^◌, List, [], ◌∷◌, length, take, drop, if◌then◌else◌, nat_lt, Option, Some, None, zero, suc, option_and_then, ◌==◌}
use Rattle.wire_format.specs.Reading.{Value, number, bytes}

-- a first byte of 128 or more before a varint that was read
abbrev pub joined : ℕ → Option (ℕ × List ℕ) → Option (ℕ × List ℕ)
joined b None = None
joined b (Some x) = if nat_lt (b - 128 + 128 * x.0) (2 ^ 64) then Some (b - 128 + 128 * x.0, x.1) else None

-- the varint at the front, in at most k bytes, and the bytes behind it
abbrev pub varint_within : ℕ → List ℕ → Option (ℕ × List ℕ)
varint_within zero text = None
varint_within (suc k) [] = None
varint_within (suc k) (b ∷ rest) = if nat_lt b 128 then Some (b, rest) else joined b (varint_within k rest)

-- the first n bytes, and those behind them
abbrev pub split_off : ℕ → List ℕ → Option (List ℕ × List ℕ)
split_off n text = if nat_lt (length text) n then None else Some (take n text, drop n text)

-- the value at the front, by its wire type, and the bytes behind it
abbrev pub body_at : ℕ → ℕ → List ℕ → Option (Option (ℕ × Value) × List ℕ)
body_at kind n text =
    if kind == 0 then option_and_then (λ x. Some (Some (n, number x.0), x.1)) (varint_within 10 text)
    else if kind == 1 then option_and_then (λ x. Some (None, x.1)) (split_off 8 text)
    else if kind == 2 then option_and_then (λ x. option_and_then (λ y. Some (Some (n, bytes y.0), y.1))
    (split_off x.0 x.1)) (varint_within 10 text)
    else if kind == 5 then option_and_then (λ x. Some (None, x.1)) (split_off 4 text)
    else None

-- the field at the front, and the bytes behind it
unfoldable pub field_at : List ℕ → Option (Option (ℕ × Value) × List ℕ)
field_at text = option_and_then (λ x. if nat_lt x.0 (2 ^ 32) then
    (if x.0 / 8 == 0 then None else body_at (x.0 % 8) (x.0 / 8) x.1) else None) (varint_within 10 text)
