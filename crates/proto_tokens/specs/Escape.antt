-- Escapes in string literals: their forms, their values, and which is the longest.
use Rattle.std.specs.Prelude.{◌≡◌, ℕ, ◌<◌, ◌≤◌, ◌||◌, ◌==◌, List, [], ◌∷◌, ◌⊎◌, length, take, Option, None, Some, if◌then◌else◌}
use Rattle.std.specs.Char.{IsScalar, encode_utf8}
use Rattle.std.specs.Str.{byte as ascii}
use Rattle.proto_tokens.specs.Numeral.{Writes}

-- what an escape stands for: a byte by its value, or a character by its number
pub data Escaped : Type 0 where
  byte : ℕ → Escaped
  character : ℕ → Escaped

-- the byte that `\a`, `\b`, `\f`, `\n`, `\r`, `\t`, `\v`, `\\`, `\'`, `\"` or `\?` stands for, by what follows the
-- backslash
abbrev pub simple_escape : ℕ → Option ℕ
simple_escape c =
    if c == ascii "a" then Some 7
    else (if c == ascii "b" then Some 8
    else (if c == ascii "f" then Some 12
    else (if c == ascii "n" then Some 10
    else (if c == ascii "r" then Some 13
    else (if c == ascii "t" then Some 9
    else (if c == ascii "v" then Some 11
    else (if c == ascii "\\" || (c == ascii "'" || (c == ascii "\"" || c == ascii "?")) then Some c
    else None)))))))

-- a backslash, and one of these bytes
abbrev pub IsSimpleEscape : List ℕ → ℕ → Type 0
IsSimpleEscape bs n = (c : ℕ) × (bs ≡ ascii "\\" ∷ c ∷ []) × (simple_escape c ≡ Some n)

-- a backslash, and one to three octal digits
abbrev pub IsOctalEscape : List ℕ → ℕ → Type 0
IsOctalEscape bs n =
    (digits : List ℕ) × (bs ≡ ascii "\\" ∷ digits) × (0 < length digits) × (length digits ≤ 3) × Writes 8 digits n

-- `\x` or `\X`, and one or two hexadecimal digits
abbrev pub IsHexEscape : List ℕ → ℕ → Type 0
IsHexEscape bs n = (x : ℕ) × (digits : List ℕ) × (bs ≡ ascii "\\" ∷ x ∷ digits) × ((x ≡ ascii "x") ⊎ (x ≡ ascii "X"))
    × (0 < length digits) × (length digits ≤ 2) × Writes 16 digits n

-- `\u` and four hexadecimal digits, or `\U` and eight
abbrev pub IsUnicodeEscape : List ℕ → ℕ → Type 0
IsUnicodeEscape bs n = (u : ℕ) × (digits : List ℕ) × (bs ≡ ascii "\\" ∷ u ∷ digits)
    × (((u ≡ ascii "u") × (length digits ≡ 4)) ⊎ ((u ≡ ascii "U") × (length digits ≡ 8))) × Writes 16 digits n

-- the bytes have the form of an escape, whatever its value
abbrev pub IsEscape : List ℕ → Escaped → Type 0
IsEscape bs (byte n) = IsSimpleEscape bs n ⊎ (IsOctalEscape bs n ⊎ IsHexEscape bs n)
IsEscape bs (character n) = IsUnicodeEscape bs n

-- the first n bytes of the text have that form, and no more of them have it
pub record IsLongestEscape (s : List ℕ) (n : ℕ) (e : Escaped) : Type 0 where
  pub fits : n ≤ length s
  pub escape_is : IsEscape (take n s) e
  pub longest : (k : ℕ) (other : Escaped) → n < k → k ≤ length s → IsEscape (take k s) other → ⊥

-- the value fits a byte, or is a character's number and no surrogate's
abbrev pub IsAllowed : Escaped → Type 0
IsAllowed (byte n) = n < 256
IsAllowed (character n) = IsScalar n

-- the longest escape at the front of the text has n bytes and an allowed value
abbrev pub IsAllowedEscape : List ℕ → ℕ → Escaped → Type 0
IsAllowedEscape s n e = IsLongestEscape s n e × IsAllowed e

-- the bytes of the value: one byte, or the character in UTF-8
abbrev pub escaped_bytes : Escaped → List ℕ
escaped_bytes (byte n) = n ∷ []
escaped_bytes (character n) = encode_utf8 n
