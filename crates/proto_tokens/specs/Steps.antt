-- Words for the contracts of private functions. They are no part of the definition of tokens and faults.
use Rattle.std.specs.Prelude.{◌≡◌, ◌≢◌, ℕ, ◌+◌, ◌<◌, ◌≤◌, ◌^◌, List, ◌∷◌, ◌⊎◌, length, slice_index}
use Rattle.std.specs.Str.{byte as ascii}
use Rattle.proto_tokens.specs.declared.escape.Escaped as rust
use Rattle.proto_tokens.specs.declared.escape.Escaped.TheVariants as escape
use Rattle.proto_base.specs.declared.kind.Kind.{Kind}
use Rattle.proto_base.specs.declared.kind.Kind.TheVariants.{BadNumber, NumberTooBig}
use Rattle.proto_tokens.specs.declared.token.TokenError.{TokenError}
use Rattle.proto_tokens.specs.declared.token.TokenError.TheVariants as errors
use Rattle.proto_tokens.specs.Numeral.{IsNumeral}
use Rattle.proto_tokens.specs.Escape.{Escaped, byte, character, IsAllowedEscape}
use Rattle.proto_tokens.specs.Quoted.{Part, IsOpened, HasByteAt, value_of}
use Rattle.proto_tokens.specs.Piece.{IsPieceFault}
use Rattle.proto_tokens.specs.Spelling.{HasPieceFault}

-- what is wrong with bytes that are no integer literal, or one of too great a value
abbrev pub IsNumeralFault : List ℕ → Kind → Type 0
IsNumeralFault bs kind = ((kind ≡ BadNumber) × ((n : ℕ) → IsNumeral bs n → ⊥))
    ⊎ ((kind ≡ NumberTooBig) × (n : ℕ) × IsNumeral bs n × (2 ^ 64 ≤ n))

-- where the first `*/` stands
pub record IsFirstClose (bs : List ℕ) (at : ℕ) : Type 0 where
  pub fits : at + 1 < length bs
  pub star : slice_index bs at ≡ ascii "*"
  pub slash : slice_index bs (at + 1) ≡ ascii "/"
  pub first : (i : ℕ) → i < at → slice_index bs i ≡ ascii "*" → slice_index bs (i + 1) ≢ ascii "/"

-- no escape with an allowed value is the longest at the front of the text
abbrev pub HasNoEscape : List ℕ → Type 0
HasNoEscape s = (n : ℕ) (e : Escaped) → IsAllowedEscape s n e → ⊥

-- what an escape of the program stands for
abbrev pub escaped_of : rust.Escaped → Escaped
escaped_of (escape.Byte b) = byte b
escaped_of (escape.Character c) = character c

-- behind the opening quote the string literal with this value closes at a place
abbrev pub IsClosed : ℕ → List ℕ → List ℕ → ℕ → Type 0
IsClosed quote after value end = (parts : List Part) × IsOpened (quote ∷ after) quote after parts end
    × HasByteAt after end quote × (value ≡ value_of parts)

-- the error tells a fault of the piece that begins a text which stands at a place, or want of memory
abbrev pub IsFaultAfter : List ℕ → ℕ → TokenError → Type 0
IsFaultAfter s at (errors.At place kind) = (k : ℕ) × IsPieceFault s k kind × (place.offset ≡ at + k)
IsFaultAfter s at errors.NoMemory = Unit {0}

-- the error tells the fault where the cutting from a place on ends, or want of memory
abbrev pub IsFaultFrom : List ℕ → ℕ → TokenError → Type 0
IsFaultFrom s from (errors.At place kind) = HasPieceFault s from place.offset kind
IsFaultFrom s from errors.NoMemory = Unit {0}
