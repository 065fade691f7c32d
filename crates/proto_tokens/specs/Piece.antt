-- The pieces that a text is cut into: blanks, comments and tokens.
use Rattle.std.specs.Prelude.{◌≡◌, ◌≢◌, ℕ, ◌+◌, ◌<◌, ◌≤◌, ◌^◌, List, [], ◌∷◌, ◌++◌, ◌⊎◌, length, take, drop, slice_index, IsTrue, IsFalse, Option, None, Some, codes}
use Rattle.std.specs.List.{AllPass}
use Rattle.std.specs.Str.{byte}
use Rattle.std.specs.Char.{is_ascii_graphic, is_ascii_digit}
use Rattle.proto_base.specs.declared.kind.Kind.{Kind}
use Rattle.proto_base.specs.declared.kind.Kind.TheVariants.{BadByte, BadNumber, NumberTooBig, UnclosedComment}
use Rattle.proto_tokens.specs.Bytes.{is_blank, is_letter, is_word, is_numeric, is_punctuation, is_slash_or_star, is_in_line, begins}
use Rattle.proto_tokens.specs.Token.{Lexeme, identifier, number, string_literal, punctuation}
use Rattle.proto_tokens.specs.Numeral.{IsNumeral}
use Rattle.proto_tokens.specs.Quoted.{IsString, IsStringFault}

-- one blank or more
abbrev pub IsBlanks : List ℕ → Type 0
IsBlanks bs = (0 < length bs) × AllPass is_blank bs

-- `//`, and bytes of its line
abbrev pub IsLineComment : List ℕ → Type 0
IsLineComment bs = (body : List ℕ) × (bs ≡ codes "//" ++ body) × AllPass is_in_line body

-- `*/` stands nowhere in the bytes
abbrev pub HasNoClose : List ℕ → Type 0
HasNoClose bs = (i : ℕ) → slice_index bs i ≡ byte "*" → slice_index bs (i + 1) ≢ byte "/"

-- `/*`, and all up to the next `*/` and with it
abbrev pub IsBlockComment : List ℕ → Type 0
IsBlockComment bs = (body : List ℕ) × (bs ≡ codes "/*" ++ (body ++ codes "*/")) × HasNoClose body

-- a letter or `_`, then letters, digits and `_`
abbrev pub IsIdentifier : List ℕ → Type 0
IsIdentifier bs = IsTrue (begins is_letter bs) × AllPass is_word bs

-- The first n bytes of the text are blanks or a comment, or this token. A number is none where a letter, a digit, `_`
-- or `.` follows it, and a `/` is none where it begins a comment.
abbrev pub IsPiece : List ℕ → ℕ → Option Lexeme → Type 0
IsPiece s n None = IsBlanks (take n s) ⊎ (IsLineComment (take n s) ⊎ IsBlockComment (take n s))
IsPiece s n (Some (identifier name)) = IsIdentifier (take n s) × (name ≡ take n s)
IsPiece s n (Some (number value)) =
    IsNumeral (take n s) value × (value < 2 ^ 64) × IsFalse (begins is_numeric (drop n s))
IsPiece s n (Some (string_literal value)) = IsString s n value
IsPiece s n (Some (punctuation b)) =
    (take n s ≡ b ∷ []) × IsTrue (is_punctuation b) × (b ≡ byte "/" → IsFalse (begins is_slash_or_star (drop n s)))

-- the first n bytes of the text are a piece, and no more of them are
pub record IsLongestPiece (s : List ℕ) (n : ℕ) (piece : Option Lexeme) : Type 0 where
  pub fits : n ≤ length s
  pub piece_is : IsPiece s n piece
  pub longest : (k : ℕ) (other : Option Lexeme) → n < k → k ≤ length s → IsPiece s k other → ⊥

-- a digit begins the text, and each integer literal at its prefix is followed by a letter, a digit, `_` or `.`
abbrev pub IsBadNumber : List ℕ → Type 0
IsBadNumber s = IsTrue (begins is_ascii_digit s)
    × ((k n : ℕ) → k ≤ length s → IsNumeral (take k s) n → IsTrue (begins is_numeric (drop k s)))

-- an integer literal that none of these follows begins the text, and its value is over 2^64 - 1
abbrev pub IsTooBig : List ℕ → Type 0
IsTooBig s =
    (k : ℕ) × (n : ℕ) × (k ≤ length s) × IsNumeral (take k s) n × IsFalse (begins is_numeric (drop k s)) × (2 ^ 64 ≤ n)

-- `/*` begins the text, and no `*/` follows
abbrev pub IsUnclosedComment : List ℕ → Type 0
IsUnclosedComment s = (rest : List ℕ) × (s ≡ codes "/*" ++ rest) × HasNoClose rest

-- the first byte begins no piece: it is no blank and no visible ASCII character
abbrev pub IsBadByte : List ℕ → Type 0
IsBadByte s = (0 < length s) × IsFalse (is_blank (slice_index s 0)) × IsFalse (is_ascii_graphic (slice_index s 0))

-- No piece begins the text, for this fault at this place of the text.
abbrev pub IsPieceFault : List ℕ → ℕ → Kind → Type 0
IsPieceFault s at kind =
    ((kind ≡ BadByte) × (at ≡ 0) × IsBadByte s)
    ⊎ (((kind ≡ BadNumber) × (at ≡ 0) × IsBadNumber s)
    ⊎ (((kind ≡ NumberTooBig) × (at ≡ 0) × IsTooBig s)
    ⊎ (((kind ≡ UnclosedComment) × (at ≡ 0) × IsUnclosedComment s)
    ⊎ IsStringFault s at kind)))
