-- Integer literals and their values.
use Rattle.std.specs.Prelude.{◌≡◌, ℕ, ◌+◌, ◌*◌, ◌<◌, List, ◌∷◌, ◌⊎◌, length}
use Rattle.std.specs.Str.{byte}
use Rattle.std.specs.List.{AllPass, fold}
use Rattle.std.specs.Char.{digit_value, is_digit}
use Rattle.std.specs.Int.{IsInRange}

-- the number that digits write in a base
abbrev pub digits_value : ℕ → List ℕ → ℕ
digits_value base digits = fold (λ n d. n * base + digit_value d) 0 digits

-- the digits are all of the base and write the number
pub record Writes (base : ℕ) (digits : List ℕ) (n : ℕ) : Type 0 where
  pub digits_of_base : AllPass (λ d. is_digit d base) digits
  pub value : n ≡ digits_value base digits

-- a hexadecimal literal: `0x` or `0X`, and one digit or more
abbrev pub IsHexadecimal : List ℕ → ℕ → Type 0
IsHexadecimal bs n = (x : ℕ) × (digits : List ℕ) × (bs ≡ byte "0" ∷ x ∷ digits) × ((x ≡ byte "x") ⊎ (x ≡ byte "X"))
    × (0 < length digits) × Writes 16 digits n

-- an octal literal: `0`, and any number of digits, none too
abbrev pub IsOctal : List ℕ → ℕ → Type 0
IsOctal bs n = (digits : List ℕ) × (bs ≡ byte "0" ∷ digits) × Writes 8 digits n

-- a decimal literal: digits, of which the first is 1 to 9
abbrev pub IsDecimal : List ℕ → ℕ → Type 0
IsDecimal bs n =
    (first : ℕ) × (digits : List ℕ) × (bs ≡ first ∷ digits) × IsInRange (byte "1") (byte "9") first × Writes 10 bs n

-- the bytes are an integer literal of this value, however great
abbrev pub IsNumeral : List ℕ → ℕ → Type 0
IsNumeral bs n = IsHexadecimal bs n ⊎ (IsOctal bs n ⊎ IsDecimal bs n)
