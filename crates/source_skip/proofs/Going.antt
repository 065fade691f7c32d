-- The tokens of a text from a place on.
use Rattle.std.specs.Prelude.{◌≡◌, ℕ, zero, suc, ◌+◌, ◌-◌, ◌≤◌, Bool, true, false, cond, ◌==◌, List, [], ◌∷◌, length, take, drop, Option, None, Some, option_map, unwrap_or}
use Rattle.std.proofs.Common.{refl, arith, sym, ap, drop-drop, ◌∙◌}
use Rattle.std.proofs.lemmas.Grind.{common_steps}
use Rattle.std.specs.Str.{byte}
use Rattle.proto_tokens.specs.Bytes.{is_blank, is_word, is_quote, is_punctuation}
use Rattle.proto_tokens.specs.Spelling.{Piece, with_token}
use Rattle.proto_tokens.specs.Token.{Lexeme, Spelled, string_literal}
use Rattle.source_skip.specs.Pieces.{comment_len, comment_or_slash, first_piece, string_len, tokens_from}
use Rattle.source_skip.specs.ProgramPieces.{lexeme_of, piece_in, tokens_behind}

-- ---- a piece has a byte at least, so that as many pieces as bytes are enough

abbrev SomePiece : Option Piece → Type 0
SomePiece None = Unit {0}
SomePiece (Some p) = 1 ≤ p.len

by_cond : (b : Bool) (x y : Option Piece) → SomePiece x → SomePiece y → SomePiece (cond b x y)
by_cond true x y h k = h
by_cond false x y h k = k

more_of : (m : ℕ) (is : ℕ → Option Lexeme) (o : Option ℕ) → 1 ≤ m
    → SomePiece (option_map (λ n. record { len = m + n; is = is n }) o)
more_of m is None h = tt
more_of m is (Some n) h = omega (arith, h)

slash_some : (bs : List ℕ) → SomePiece (comment_or_slash bs)
slash_some [] = omega arith
slash_some (b ∷ bs) = by_cond (b == byte "/") _ _ (omega arith)
    (by_cond (b == byte "*") _ _ (more_of 2 (λ n. None) (comment_len false bs) (omega arith)) (omega arith))

piece_some : (s : List ℕ) → SomePiece (first_piece s)
piece_some [] = tt
piece_some (b ∷ bs) = by_cond (is_blank b) _ _ (omega arith) (by_cond (is_word b) _ _ (omega arith)
    (by_cond (b == byte "/") _ _ (slash_some bs) (by_cond (is_quote b) _ _
    (more_of 1 (λ n. Some (string_literal (b ∷ take n bs))) (string_len b false bs) (omega arith))
    (by_cond (is_punctuation b) _ _ (omega arith) tt))))

none_left : (most at : ℕ) (s : List ℕ) → first_piece s ≡ None → tokens_from most at s ≡ []
none_left zero at s h = refl
none_left (suc most) at s h = rw h refl

enough_by : (m k at : ℕ) (s : List ℕ) (o : Option Piece) → SomePiece o
    → ((p : Piece) → 1 ≤ p.len
    → tokens_from m (at + p.len) (drop p.len s) ≡ tokens_from k (at + p.len) (drop p.len s))
    → unwrap_or (option_map (λ p. with_token p.is at (at + p.len) (tokens_from m (at + p.len) (drop p.len s))) o) []
    ≡ unwrap_or (option_map (λ p. with_token p.is at (at + p.len) (tokens_from k (at + p.len) (drop p.len s))) o) []
enough_by m k at s None h e = refl
enough_by m k at s (Some p) h e = ap (with_token p.is at (at + p.len)) (e p h)

dropped_less : (n m b : ℕ) (bs : List ℕ) → 1 ≤ n → length (b ∷ bs) ≤ suc m → length (drop n (b ∷ bs)) ≤ m
dropped_less n m b bs h l = grind (arith, common_steps)

tokens_enough : (m k at : ℕ) (s : List ℕ) → length s ≤ m → length s ≤ k → tokens_from m at s ≡ tokens_from k at s
tokens_enough m k at [] l n = none_left m at [] refl ∙ sym (none_left k at [] refl)
tokens_enough zero k at (b ∷ bs) l n = absurd (omega (arith, l))
tokens_enough (suc m) zero at (b ∷ bs) l n = absurd (omega (arith, n))
tokens_enough (suc m) (suc k) at (b ∷ bs) l n = enough_by m k at (b ∷ bs) (first_piece (b ∷ bs)) (piece_some (b ∷ bs))
    (λ p h. tokens_enough m k (at + p.len) (drop p.len (b ∷ bs)) (dropped_less p.len m b bs h l)
    (dropped_less p.len k b bs h n))

-- ---- from place to place

dropped_within : (at : ℕ) (text : List ℕ) → length (drop at text) ≤ length text
dropped_within at text = grind (arith, common_steps)

one_more : (at : ℕ) (text : List ℕ) → tokens_behind text at ≡ tokens_from (suc (length text)) at (drop at text)
one_more at text = tokens_enough (length text) (suc (length text)) at (drop at text) (dropped_within at text)
    (omega (arith, dropped_within at text))

rest_whole : (text : List ℕ) (at : ℕ) → at ≤ length text → take (length text - at) (drop at text) ≡ drop at text
rest_whole text at h = grind (arith, common_steps)

gap_by : (m at len : ℕ) (text : List ℕ) → Some (piece_in (drop at text) len false) ≡ first_piece (drop at text)
    → tokens_from (suc m) at (drop at text) ≡ tokens_from m (at + len) (drop (at + len) text)
gap_by m at len text h = rw (sym h, drop-drop len at text) refl

abbrev spelled_at : ℕ → ℕ → List ℕ → Spelled
spelled_at at len text = record { start = at; end = at + len; lexeme = lexeme_of (take len (drop at text)) }

token_by : (m at len : ℕ) (text : List ℕ) → Some (piece_in (drop at text) len true) ≡ first_piece (drop at text)
    → tokens_from (suc m) at (drop at text)
    ≡ spelled_at at len text ∷ tokens_from m (at + len) (drop (at + len) text)
token_by m at len text h = rw (sym h, drop-drop len at text) refl

-- what the piece at a place is, by the rest of the text as the program has it
module _ (text : List ℕ) (at : ℕ) (within : at ≤ length text) where
  pub behind_gap : (len : ℕ) (is_token : Bool) → is_token ≡ false
      → Some (piece_in (take (length text - at) (drop at text)) len is_token)
      ≡ first_piece (take (length text - at) (drop at text))
      → tokens_behind text at ≡ tokens_behind text (at + len)
  behind_gap len is_token t h =
      one_more at text ∙ gap_by (length text) at len text (rw (t, rest_whole text at within) at h)

  pub behind_token : (len : ℕ) (is_token : Bool) (lexeme : Lexeme) → is_token ≡ true
      → Some (piece_in (take (length text - at) (drop at text)) len is_token)
      ≡ first_piece (take (length text - at) (drop at text))
      → lexeme ≡ lexeme_of (take (at + len - at) (drop at text))
      → tokens_behind text at
      ≡ record { start = at; end = at + len; lexeme = lexeme } ∷ tokens_behind text (at + len)
  behind_token len is_token lexeme t h e =
      let l : at + len - at ≡ len = omega arith in
      let k = rw (t, rest_whole text at within) at h in
      rw (e, l) (one_more at text ∙ token_by (length text) at len text k)

  pub behind_none : None ≡ first_piece (take (length text - at) (drop at text)) → tokens_behind text at ≡ []
  behind_none h = let k = rw (rest_whole text at within) at h in none_left (length text) at (drop at text) (sym k)
