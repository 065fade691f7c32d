-- String literals: their parts, their values, and their faults.
use Rattle.std.specs.Prelude.{◌≡◌, ℕ, ◌+◌, ◌<◌, ◌≤◌, Bool, not, ◌||◌, ◌==◌, List, [], ◌∷◌, ◌⊎◌, length, drop, slice_index, IsTrue}
use Rattle.std.specs.List.{flat_map}
use Rattle.std.specs.Str.{IsUtf8, byte}
use Rattle.proto_base.specs.declared.kind.Kind.{Kind}
use Rattle.proto_base.specs.declared.kind.Kind.TheVariants.{BadByte, BadEscape, UnclosedString}
use Rattle.proto_tokens.specs.Bytes.{is_quote}
use Rattle.proto_tokens.specs.Escape.{Escaped, IsAllowedEscape, escaped_bytes}
use Rattle.proto_tokens.specs.Cut.{IsCutInto}

-- a part of a string literal: how many bytes it has, and the bytes that it stands for
pub record Part : Type 0 where
  pub len : ℕ
  pub value : List ℕ

-- neither the quote that closes, nor a backslash, LF or zero byte
abbrev pub is_plain : ℕ → ℕ → Bool
is_plain quote b = not (b == quote || (b == byte "\\" || (b == 10 || b == 0)))

-- the part at the front of the text: a plain byte, which stands for itself, or the longest escape
abbrev pub IsPart : ℕ → List ℕ → Part → Type 0
IsPart quote s p =
    ((b : ℕ) × (rest : List ℕ) × (s ≡ b ∷ rest) × IsTrue (is_plain quote b) × (p.len ≡ 1) × (p.value ≡ b ∷ []))
    ⊎ ((e : Escaped) × IsAllowedEscape s p.len e × (p.value ≡ escaped_bytes e))

-- what the parts stand for, one after the other
abbrev pub value_of : List Part → List ℕ
value_of ps = flat_map (λ p. p.value) ps

-- the byte at a place of the text
abbrev pub HasByteAt : List ℕ → ℕ → ℕ → Type 0
HasByteAt s i b = (i < length s) × (slice_index s i ≡ b)

-- The text begins with a quote, and what follows it is cut into parts up to a place, which counts from the byte after
-- the quote.
pub record IsOpened (s : List ℕ) (quote : ℕ) (after : List ℕ) (parts : List Part) (end : ℕ) : Type 0 where
  pub begins_so : s ≡ quote ∷ after
  pub quote_is : IsTrue (is_quote quote)
  pub cut : IsCutInto (IsPart quote) (λ p. p.len) after 0 parts end
  pub within : end ≤ length after

-- The first n bytes of the text are a string literal: behind its parts stands the quote again, and their value is
-- UTF-8.
abbrev pub IsString : List ℕ → ℕ → List ℕ → Type 0
IsString s n value = (quote : ℕ) × (after : List ℕ) × (parts : List Part) × (end : ℕ) × IsOpened s quote after parts end
    × HasByteAt after end quote × (n ≡ end + 2) × (value ≡ value_of parts) × IsUtf8 value

-- What is wrong where the parts end, with the fault's place from the opening quote on: a backslash that begins no part,
-- a value that is no UTF-8, a zero byte, or the end of the text or of the line.
abbrev pub IsPartFault : ℕ → List ℕ → List Part → ℕ → ℕ → Kind → Type 0
IsPartFault quote after parts end at kind =
    ((kind ≡ BadEscape) × (at ≡ end + 1) × HasByteAt after end (byte "\\")
    × ((p : Part) → IsPart quote (drop end after) p → ⊥))
    ⊎ (((kind ≡ BadEscape) × (at ≡ 0) × HasByteAt after end quote × (IsUtf8 (value_of parts) → ⊥))
    ⊎ (((kind ≡ BadByte) × (at ≡ end + 1) × HasByteAt after end 0)
    ⊎ ((kind ≡ UnclosedString) × (at ≡ 0) × ((end ≡ length after) ⊎ HasByteAt after end 10))))

-- A quote begins the text, and this is wrong with the string literal that it opens.
abbrev pub IsStringFault : List ℕ → ℕ → Kind → Type 0
IsStringFault s at kind = (quote : ℕ) × (after : List ℕ) × (parts : List Part) × (end : ℕ)
    × IsOpened s quote after parts end × IsPartFault quote after parts end at kind
