-- The program's pieces, as the definitions see them.
use Rattle.std.specs.Prelude.{ℕ, Bool, List, [], ◌∷◌, length, take, drop, None, Some, cond}
use Rattle.std.specs.Str.{byte}
use Rattle.proto_tokens.specs.Bytes.{is_word, is_quote}
use Rattle.proto_tokens.specs.Spelling.{Piece}
use Rattle.proto_tokens.specs.Token.{Lexeme, punctuation, string_literal, Spelled}
use Rattle.source_skip.specs.Pieces.{tokens_from, word_is}

-- what the bytes of a token are
abbrev pub lexeme_of : List ℕ → Lexeme
lexeme_of [] = punctuation 0
lexeme_of (b ∷ bs) = cond (is_word b) (word_is (b ∷ bs)) (cond (is_quote b) (string_literal (b ∷ bs)) (punctuation b))

-- a `/`, or a comment of so many bytes
abbrev pub slash_piece : ℕ → Bool → Piece
slash_piece len is_token = record { len = len; is = cond is_token (Some (punctuation (byte "/"))) None }

-- so many bytes of the text, which are a token or not
abbrev pub piece_in : List ℕ → ℕ → Bool → Piece
piece_in s len is_token = record { len = len; is = cond is_token (Some (lexeme_of (take len s))) None }

-- the tokens of a text from a place on
abbrev pub tokens_behind : List ℕ → ℕ → List Spelled
tokens_behind text at = tokens_from (length text) at (drop at text)
