-- The tokens of the program, and tables of them.
use Rattle.std.specs.Prelude.{◌≡◌, ◌==◌, ℕ, suc, ◌<◌, ◌&&◌, not, cond, List, [], ◌∷◌, length, map, slice_index_or, Option, None, option_map}
use denote.Ref.{Bor}
use Rattle.std.specs.Int.{is_in_range}
use Rattle.std.specs.Str.{byte}
use Rattle.proto_tokens.specs.Token.{Lexeme, identifier, number, string_literal, punctuation, Spelled}
use Rattle.source_skip.specs.Shapes.{Shape, behind, closed, unwritten, unwritten_of_fields}
use Rattle.source_skip.specs.declared.token.TokenKind.{TokenKind}
use Rattle.source_skip.specs.declared.token.TokenKind.TheVariants as kind
use Rattle.source_skip.specs.declared.token.Span.{Span}
use Rattle.source_skip.specs.declared.token.Token.{Token}
use Rattle.source_skip.specs.declared.words.Position.{Position}
use Rattle.source_skip.specs.declared.words.Position.TheVariants as position

abbrev pub lexeme_of_kind : TokenKind → Lexeme
lexeme_of_kind (kind.Identifier word) = identifier word.now
lexeme_of_kind kind.Number = number 0
lexeme_of_kind (kind.Text bytes) = string_literal bytes.now
lexeme_of_kind (kind.Symbol b) = punctuation b

abbrev pub spelled : Token → Spelled
spelled t = record { start = t.span.start; end = t.span.end; lexeme = lexeme_of_kind t.kind }

-- the bytes of a token
abbrev pub span_of : Spelled → Span
span_of t = record { start = t.start; end = t.end }

abbrev pub words_of : Position → List (List ℕ)
words_of position.Statement = unwritten
words_of position.Brackets = unwritten_of_fields

-- what stands behind a rule's tokens at the front, if they stand there
abbrev pub Takes : Shape → List Token → Option (Bor (List Token)) → Type 0
Takes shape tokens result = option_map (λ rest. map spelled rest.now) result ≡ behind shape (map spelled tokens)

-- For each token of a list the table has, where the number of tokens behind it says, how many stand behind the `}` that
-- closes a brace at this token.
abbrev pub IsClosing : List (Option ℕ) → List Spelled → Type 0
IsClosing closes [] = Unit {0}
IsClosing closes (t ∷ ts) = (length ts < length closes)
    × (slice_index_or closes (length ts) None ≡ option_map length (closed 0 ts)) × IsClosing closes ts

-- the bytes from a place on, with spaces in place of those of a span
abbrev pub blanked : (at : ℕ) → Span → List ℕ → List ℕ
blanked at span [] = []
blanked at span (b ∷ bs) =
    cond (is_in_range span.start span.end at && not (at == span.end)) (byte " ") b ∷ blanked (suc at) span bs
