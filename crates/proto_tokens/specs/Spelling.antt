-- How a text spells its tokens, and where its fault lies.
use Rattle.std.specs.Prelude.{◌≡◌, ℕ, ◌+◌, ◌<◌, ◌≤◌, List, [], ◌∷◌, length, drop, nat_eq, ◌⊎◌, Option, None, Some, if◌then◌else◌}
use Rattle.std.specs.List.{starts_with}
use Rattle.std.specs.Str.{IsUtf8}
use Rattle.std.specs.Str.Lossy.{utf8_valid_len}
use Rattle.proto_base.specs.declared.kind.Kind.{Kind}
use Rattle.proto_base.specs.declared.kind.Kind.TheVariants.{FileTooLong, NotUtf8}
use Rattle.proto_tokens.specs.Cut.{IsCutInto}
use Rattle.proto_tokens.specs.Token.{Lexeme, Spelled}
use Rattle.proto_tokens.specs.Piece.{IsLongestPiece, IsPieceFault}

-- a piece of the text: how many bytes it has, and its token; a blank or a comment has none
pub record Piece : Type 0 where
  pub len : ℕ
  pub is : Option Lexeme

-- From one place of the text up to another it is cut into these pieces, each the longest at its place.
abbrev pub IsCutIntoPieces : List ℕ → ℕ → List Piece → ℕ → Type 0
IsCutIntoPieces s from ps to = IsCutInto (λ rest p. IsLongestPiece rest p.len p.is) (λ p. p.len) s from ps to

-- the token of a piece from one place up to another, if it has one, before further tokens
abbrev pub with_token : Option Lexeme → ℕ → ℕ → List Spelled → List Spelled
with_token None start end ts = ts
with_token (Some lexeme) start end ts = record { start = start; end = end; lexeme = lexeme } ∷ ts

-- the tokens of the pieces that stand from a place on
abbrev pub tokens_from : ℕ → List Piece → List Spelled
tokens_from from [] = []
tokens_from from (p ∷ ps) = with_token p.is from (from + p.len) (tokens_from (from + p.len) ps)

-- the length of the byte order mark at the start, if there is one
abbrev pub mark_len : List ℕ → ℕ
mark_len s = if starts_with nat_eq s (0xEF ∷ 0xBB ∷ 0xBF ∷ []) then 3 else 0

-- From a place on the text is wholly cut, into these tokens and what stands between them.
abbrev pub SpellsFrom : List ℕ → ℕ → List Spelled → Type 0
SpellsFrom s from ts = (ps : List Piece) × IsCutIntoPieces s from ps (length s) × (tokens_from from ps ≡ ts)

-- From a place on the text is cut as far as pieces stand, and what follows begins with this fault.
abbrev pub HasPieceFault : List ℕ → ℕ → ℕ → Kind → Type 0
HasPieceFault s from place kind = (ps : List Piece) × (to : ℕ) × (at : ℕ) × IsCutIntoPieces s from ps to
    × IsPieceFault (drop to s) at kind × (place ≡ to + at)

-- the text, of at most limit bytes and all UTF-8, spells these tokens behind its byte order mark
pub record IsTokenList (limit : ℕ) (s : List ℕ) (ts : List Spelled) : Type 0 where
  pub short : length s ≤ limit
  pub utf8 : IsUtf8 s
  pub spelled_so : SpellsFrom s (mark_len s) ts

-- The text's first fault is of this kind, at this place: a text that is too long, then one that is no UTF-8, then the
-- first from left to right.
abbrev pub IsFault : ℕ → List ℕ → ℕ → Kind → Type 0
IsFault limit s place kind =
    ((kind ≡ FileTooLong) × (place ≡ 0) × (limit < length s))
    ⊎ (((kind ≡ NotUtf8) × (place ≡ utf8_valid_len s) × (length s ≤ limit) × ¬ (IsUtf8 s))
    ⊎ ((length s ≤ limit) × IsUtf8 s × HasPieceFault s (mark_len s) place kind))
