-- The loose tokens of a text are its tokens, but for the values of numbers and strings.
use Rattle.std.proofs.Common.{◌≡◌, ℕ, zero, suc, ◌+◌, ◌<◌, ◌≤◌, Bool, true, false, ◌||◌, ◌==◌, ◌⊎◌, List, [], ◌∷◌, ◌++◌, length, map, take, drop, Option, None, Some, option_map, refl, sym, ap, ◌∙◌, arith, inl, inr, drop-drop, length-drop, length-take-le, take-append-drop, length-append, append_assoc}
use Rattle.std.proofs.lemmas.Bool.{both_ways}
use Rattle.std.proofs.lemmas.Bool.Decides.{nat_tests}
use Rattle.std.proofs.lemmas.List.{drop_all}
use Rattle.std.proofs.lemmas.List.Elements.{All-cons, All-head, All-weaker}
use Rattle.std.proofs.lemmas.List.Sums.{prefix_len-le-length}
use Rattle.std.specs.Char.{is_digit, is_ascii_digit}
use Rattle.std.specs.List.{AllPass, prefix_len}
use Rattle.proto_tokens.proofs.Pieces.{starts, longest_blanks, longest_identifier, longest_line}
use Rattle.proto_tokens.proofs.Runs.{run_longest, within_run}
use Rattle.proto_tokens.specs.Bytes.{begins, is_blank, is_in_line, is_letter, is_numeric, is_punctuation, is_quote, is_slash_or_star, is_word}
use Rattle.proto_tokens.specs.Numeral.{IsNumeral, Writes}
use Rattle.proto_tokens.specs.Piece.{HasNoClose, IsBlanks, IsBlockComment, IsLineComment, IsLongestPiece, IsPiece}
use Rattle.proto_tokens.specs.Quoted.{IsString}
use Rattle.proto_tokens.specs.Spelling.{IsCutIntoPieces, IsTokenList, Piece, mark_len, with_token}
use Rattle.proto_tokens.specs.Spelling as spelling
use Rattle.proto_tokens.specs.Token.{Lexeme, identifier, number, string_literal, punctuation, Spelled}
use Rattle.source_skip.specs.Pieces.{comment_len, comment_or_slash, first_piece, loose_tokens, string_len, tokens_from, word_is}
use Rattle.skipping_laws.proofs.Strings.{comment_found, string_found}
use Rattle.skipping_laws.proofs.Watch.{plain, plain_of}

-- the piece that loose tokens find at the front is as long, and of the same kind
record IsFound (s : List ℕ) (n : ℕ) (w : Option Lexeme) : Type 0 where
  is : Option Lexeme
  found : first_piece s ≡ Some (record { len = n; is = is })
  alike : option_map plain is ≡ option_map plain w

-- ---- the lengths of runs

taken_len : (p : ℕ → Bool) (s : List ℕ) → length (take (prefix_len p s) s) ≡ prefix_len p s
taken_len p s = length-take-le (prefix_len p s) s (prefix_len-le-length p s)

taken_more : (n b : ℕ) (bs : List ℕ) → take (1 + n) (b ∷ bs) ≡ b ∷ take n bs
taken_more n b bs = let e : 1 + n ≡ suc n = omega arith in rw e refl

longest_len : (s : List ℕ) (m n : ℕ) (v w : Option Lexeme) → IsLongestPiece s m v → IsLongestPiece s n w → m ≡ n
longest_len s m n v w a b = grind (arith, a.longest n w, b.longest m v, a.fits, b.fits, a.piece_is, b.piece_is)

-- ---- words

word_not_blank : (b : ℕ) → is_word b ≡ true → is_blank b ≡ false
word_not_blank b h = grind (arith, nat_tests)

word_found : (b : ℕ) (bs : List ℕ) (n : ℕ) → is_word b ≡ true → n ≡ prefix_len is_word (b ∷ bs)
    → first_piece (b ∷ bs) ≡ Some (record { len = n; is = Some (word_is (take n (b ∷ bs))) })
word_found b bs n word len =
    let same : n ≡ 1 + prefix_len is_word bs = rw word at len in
    rw (same, taken_more (prefix_len is_word bs) b bs, word_not_blank b word, word, taken_len is_word bs) refl

letter_word : (b : ℕ) → is_letter b ≡ true → is_word b ≡ true
letter_word b h = grind arith

digit_word : (b : ℕ) → is_ascii_digit b ≡ true → is_word b ≡ true
digit_word b h = grind arith

digit_no_letter : (b : ℕ) → is_ascii_digit b ≡ true → is_letter b ≡ false
digit_no_letter b h = grind (arith, nat_tests)

letter_is : (ws : List ℕ) → begins is_letter ws ≡ true → word_is ws ≡ identifier ws
letter_is [] h = cc
letter_is (b ∷ bs) h = rw h refl

identifier_found : (s : List ℕ) (n : ℕ) (name : List ℕ) → IsLongestPiece s n (Some (identifier name))
    → IsFound s n (Some (identifier name))
identifier_found [] n name is = absurd (omega (arith, (starts [] n (Some (identifier name)) is.piece_is).1))
identifier_found (b ∷ bs) n name is =
    let letter : is_letter b ≡ true = (starts (b ∷ bs) n (Some (identifier name)) is.piece_is).2 in
    let len = longest_len (b ∷ bs) n (prefix_len is_word (b ∷ bs)) (Some (identifier name))
    (Some (identifier (take (prefix_len is_word (b ∷ bs)) (b ∷ bs)))) is (longest_identifier (b ∷ bs) letter) in
    record {
      is = Some (word_is (take n (b ∷ bs)));
      found = word_found b bs n (letter_word b letter) len;
      alike = ap (λ l. Some (plain l)) (letter_is (take n (b ∷ bs)) is.piece_is.0.0
          ∙ ap identifier (sym is.piece_is.1));
    }

-- ---- numbers

digit_is_word : (base d : ℕ) → base ≤ 16 → is_digit d base ≡ true → is_word d ≡ true
digit_is_word base d small e = grind (arith, nat_tests)

digits_words : (base : ℕ) (ds : List ℕ) (n : ℕ) → base ≤ 16 → Writes base ds n → AllPass is_word ds
digits_words base ds n small w = All-weaker (λ d. is_digit d base ≡ true) (λ d. is_word d ≡ true)
    (λ d h. digit_is_word base d small h) ds w.digits_of_base

numeral_words : (bs : List ℕ) (n : ℕ) → IsNumeral bs n → AllPass is_word bs
numeral_words bs n (inl hex) = grind (arith, nat_tests, All-cons, digits_words)
numeral_words bs n (inr (inl octal)) = grind (arith, nat_tests, All-cons, digits_words)
numeral_words bs n (inr (inr decimal)) = grind (arith, digits_words, nat_tests)

begins_numeric : (s : List ℕ) → begins is_word s ≡ true → begins is_numeric s ≡ true
begins_numeric [] h = h
begins_numeric (b ∷ bs) h = rw h refl

number_len : (s : List ℕ) (n v : ℕ) → n ≤ length s → IsPiece s n (Some (number v)) → n ≡ prefix_len is_word s
number_len s n v within is =
    let low = run_longest is_word s n within (numeral_words (take n s) v is.0) in
    let high : n < prefix_len is_word s → ⊥ =
    λ lt. both_ways (begins is_numeric (drop n s)) is.2
    (begins_numeric (drop n s) (within_run is_word s n lt)) in
    grind (arith, high)

digit_is : (b : ℕ) (bs : List ℕ) (n : ℕ) → is_ascii_digit b ≡ true → word_is (take (suc n) (b ∷ bs)) ≡ number 0
digit_is b bs n h = rw (digit_no_letter b h) refl

number_found : (s : List ℕ) (n v : ℕ) → IsLongestPiece s n (Some (number v)) → IsFound s n (Some (number v))
number_found [] n v is = absurd (omega (arith, (starts [] n (Some (number v)) is.piece_is).1))
number_found (b ∷ bs) zero v is = absurd (omega (arith, (starts (b ∷ bs) 0 (Some (number v)) is.piece_is).0))
number_found (b ∷ bs) (suc n) v is =
    let digit : is_ascii_digit b ≡ true = (starts (b ∷ bs) (suc n) (Some (number v)) is.piece_is).2 in
    record {
      is = Some (word_is (take (suc n) (b ∷ bs)));
      found = word_found b bs (suc n) (digit_word b digit) (number_len (b ∷ bs) (suc n) v is.fits is.piece_is);
      alike = ap (λ l. Some (plain l)) (digit_is b bs n digit);
    }

-- ---- strings

record IsQuoteByte (b : ℕ) : Type 0 where
  blank : is_blank b ≡ false
  word : is_word b ≡ false
  slash : (b == 47) ≡ false

quote_byte : (b : ℕ) → is_quote b ≡ true → IsQuoteByte b
quote_byte b h = record {
  blank = grind (arith, nat_tests);
  word = grind (arith, nat_tests);
  slash = grind (arith, nat_tests);
}

quoted_by : (b : ℕ) (bs : List ℕ) (m : ℕ) → is_quote b ≡ true → string_len b false bs ≡ Some m
    → first_piece (b ∷ bs) ≡ Some (record { len = 1 + m; is = Some (string_literal (b ∷ take m bs)) })
quoted_by b bs m quote found =
    let q = quote_byte b quote in rw (q.blank, q.word, q.slash, quote, found) refl

text_found : (s : List ℕ) (n : ℕ) (value : List ℕ) → IsString s n value → IsFound s n (Some (string_literal value))
text_found s n value (quote, after, parts, end, opened, closes, len, value_is, utf8) =
    let m = string_found quote after opened.quote_is 0 parts end opened.cut closes in
    let e : 1 + m.0 ≡ n = omega (arith, m.2, len) in
    record {
      is = Some (string_literal (quote ∷ take m.0 after));
      found = rw (opened.begins_so, ← e) (quoted_by quote after m.0 opened.quote_is m.1);
      alike = refl;
    }

-- ---- punctuation

record IsMarkByte (b : ℕ) : Type 0 where
  blank : is_blank b ≡ false
  word : is_word b ≡ false
  quote : is_quote b ≡ false

mark_byte : (b : ℕ) → is_punctuation b ≡ true → IsMarkByte b
mark_byte b h = record {
  blank = grind (arith, nat_tests);
  word = grind (arith, nat_tests);
  quote = grind (arith, nat_tests);
}

neither : (p q : Bool) → (p || q) ≡ false → (p ≡ false) × (q ≡ false)
neither false q h = (refl, h)
neither true q h = cc

slash_alone : (bs : List ℕ) → begins is_slash_or_star bs ≡ false
    → comment_or_slash bs ≡ Some (record { len = 1; is = Some (punctuation 47) })
slash_alone [] h = refl
slash_alone (b ∷ bs) h = let k = neither (b == 47) (b == 42) h in rw (k.0, k.1) refl

mark_by : (is_slash : Bool) (b : ℕ) (bs : List ℕ) → (b == 47) ≡ is_slash → is_punctuation b ≡ true
    → (b ≡ 47 → begins is_slash_or_star bs ≡ false)
    → first_piece (b ∷ bs) ≡ Some (record { len = 1; is = Some (punctuation b) })
mark_by true b bs h mark alone =
    let same : b ≡ 47 = grind (arith, nat_tests) in
    let m = mark_byte b mark in
    rw (m.blank, m.word, h, same) (slash_alone bs (alone same))
mark_by false b bs h mark alone = let m = mark_byte b mark in rw (mark, m.blank, m.word, h, m.quote) refl

one_taken : (b c n : ℕ) (bs : List ℕ) → n ≤ length (b ∷ bs) → take n (b ∷ bs) ≡ c ∷ [] → (n ≡ 1) × (c ≡ b)
one_taken b c zero bs within e = cc
one_taken b c (suc zero) bs within e = (refl, sym (cc))
one_taken b c (suc (suc n)) [] within e = absurd (omega (arith, within))
one_taken b c (suc (suc n)) (d ∷ bs) within e = cc

punctuation_found : (s : List ℕ) (n c : ℕ) → n ≤ length s → IsPiece s n (Some (punctuation c))
    → IsFound s n (Some (punctuation c))
punctuation_found [] n c within is = absurd (omega (arith, (starts [] n (Some (punctuation c)) is).1))
punctuation_found (b ∷ bs) n c within is =
    let one = one_taken b c n bs within is.0 in
    record {
      is = Some (punctuation c);
      found = rw (one.0, one.1) (mark_by (b == 47) b bs refl (rw one.1 at is.1)
          (λ h. rw (one.0, one.1) at is.2 h));
      alike = refl;
    }

-- ---- blanks and comments

blanks_found : (s : List ℕ) (n : ℕ) → begins is_blank s ≡ true → IsLongestPiece s n None → IsFound s n None
blanks_found [] n first is = cc
blanks_found (b ∷ bs) n first is =
    let len = longest_len (b ∷ bs) n (prefix_len is_blank (b ∷ bs)) None None is (longest_blanks (b ∷ bs) first) in
    let same : n ≡ 1 + prefix_len is_blank bs = rw first at len in
    record { is = None; found = rw (same, first, taken_len is_blank bs) refl; alike = refl }

line_found : (rest : List ℕ) (n : ℕ) → IsLongestPiece (47 ∷ 47 ∷ rest) n None → IsFound (47 ∷ 47 ∷ rest) n None
line_found rest n is =
    let run = prefix_len is_in_line rest in
    let len = longest_len (47 ∷ 47 ∷ rest) n (suc (suc run)) None None is (longest_line rest) in
    let same : n ≡ 2 + prefix_len is_in_line rest = omega (arith, len) in
    record { is = None; found = rw (same, taken_len is_in_line rest) refl; alike = refl }

block_found : (rest body : List ℕ) (j : ℕ) → j ≤ length rest → take j rest ≡ body ++ 42 ∷ 47 ∷ [] → HasNoClose body
    → IsFound (47 ∷ 42 ∷ rest) (suc (suc j)) None
block_found rest body j within e none =
    let whole : rest ≡ body ++ 42 ∷ 47 ∷ drop j rest =
    sym (take-append-drop j rest) ∙ ap (λ xs. xs ++ drop j rest) e ∙ append_assoc body (42 ∷ 47 ∷ []) (drop j rest) in
    let len : 2 + length body ≡ j =
    omega (arith, length-take-le j rest within, ap length e, length-append body (42 ∷ 47 ∷ [])) in
    let found : comment_len false rest ≡ Some j = rw (← len) (ap (comment_len false) whole
    ∙ comment_found false body (drop j rest) none (λ s. absurd (cc))) in
    let same : 2 + j ≡ suc (suc j) = omega arith in
    record { is = None; found = rw (found, same) refl; alike = refl }

-- which comment it is
comment_by : (s : List ℕ) (n : ℕ) → IsLongestPiece s n None
    → IsLineComment (take n s) ⊎ IsBlockComment (take n s) → IsFound s n None
comment_by s zero is h = absurd (omega (arith, (starts s 0 None is.piece_is).0))
comment_by [] (suc n) is h = absurd (omega (arith, (starts [] (suc n) None is.piece_is).1))
comment_by (b ∷ bs) (suc zero) is (inl (body, e, all)) = cc
comment_by (b ∷ bs) (suc zero) is (inr (body, e, none)) = cc
comment_by (b ∷ []) (suc (suc j)) is (inl (body, e, all)) = cc
comment_by (b ∷ []) (suc (suc j)) is (inr (body, e, none)) = cc
comment_by (b ∷ c ∷ rest) (suc (suc j)) is (inl (body, e, all)) =
    let first : b ≡ 47 = cc in
    let second : c ≡ 47 = cc in
    rw (first, second) (line_found rest (suc (suc j)) (rw (first, second) at is))
comment_by (b ∷ c ∷ rest) (suc (suc j)) is (inr (body, e, none)) =
    let first : b ≡ 47 = cc in
    let second : c ≡ 42 = cc in
    let inner : take j rest ≡ body ++ 42 ∷ 47 ∷ [] = cc in
    rw (first, second) (block_found rest body j (omega (arith, is.fits)) inner none)

blanks_first : (s : List ℕ) (n : ℕ) → IsBlanks (take n s) → begins is_blank s ≡ true
blanks_first [] zero h = absurd (omega (arith, h.0))
blanks_first [] (suc n) h = absurd (omega (arith, h.0))
blanks_first (b ∷ bs) zero h = absurd (omega (arith, h.0))
blanks_first (b ∷ bs) (suc n) h = All-head (λ c. is_blank c ≡ true) b (take n bs) h.1

gap_found : (s : List ℕ) (n : ℕ) → IsLongestPiece s n None → IsPiece s n None → IsFound s n None
gap_found s n is (inl blanks) = blanks_found s n (blanks_first s n blanks) is
gap_found s n is (inr comment) = comment_by s n is comment

piece_found : (s : List ℕ) (n : ℕ) (w : Option Lexeme) → IsLongestPiece s n w → IsFound s n w
piece_found s n None is = gap_found s n is is.piece_is
piece_found s n (Some (identifier name)) is = identifier_found s n name is
piece_found s n (Some (number v)) is = number_found s n v is
piece_found s n (Some (string_literal value)) is = text_found s n value is.piece_is
piece_found s n (Some (punctuation c)) is = punctuation_found s n c is.fits is.piece_is

-- ---- whole texts

no_tokens : (most at : ℕ) (s : List ℕ) → s ≡ [] → tokens_from most at s ≡ []
no_tokens zero at s e = refl
no_tokens (suc most) at s e = rw e refl

both_tokens : (v w : Option Lexeme) (at to : ℕ) (ts us : List Spelled) → option_map plain v ≡ option_map plain w
    → map plain_of ts ≡ map plain_of us
    → map plain_of (with_token v at to ts) ≡ map plain_of (with_token w at to us)
both_tokens None None at to ts us e h = h
both_tokens (Some v) (Some w) at to ts us e h = let p : plain v ≡ plain w = cc in λ i. p i ∷ h i
both_tokens v w at to ts us e h = cc

tokens_by : (most from : ℕ) (text : List ℕ) (p : Piece) (us : List Spelled)
    → IsFound (drop from text) p.len p.is
    → map plain_of (tokens_from most (from + p.len) (drop (from + p.len) text)) ≡ map plain_of us
    → map plain_of (tokens_from (suc most) from (drop from text))
    ≡ map plain_of (with_token p.is from (from + p.len) us)
tokens_by most from text p us f rest =
    rw (f.found, drop-drop p.len from text) (both_tokens f.is p.is from (from + p.len) _ us f.alike rest)

loose_by : (most from : ℕ) (text : List ℕ) (ps : List Piece) → IsCutIntoPieces text from ps (length text)
    → length (drop from text) ≤ most
    → map plain_of (tokens_from most from (drop from text)) ≡ map plain_of (spelling.tokens_from from ps)
loose_by most from text [] cut enough =
    rw (no_tokens most from (drop from text) (drop_all from text (omega (arith, cut)))) refl
loose_by zero from text (p ∷ ps) cut enough =
    absurd (omega (arith, enough, (starts (drop from text) p.len p.is cut.0.piece_is).1))
loose_by (suc most) from text (p ∷ ps) cut enough =
    let some = (starts (drop from text) p.len p.is cut.0.piece_is).0 in
    tokens_by most from text p (spelling.tokens_from (from + p.len) ps)
    (piece_found (drop from text) p.len p.is cut.0)
    (loose_by most (from + p.len) text ps cut.1
    (omega (arith, enough, some, cut.0.fits, length-drop from text, length-drop (from + p.len) text)))

pub loose_alike : (limit : ℕ) (text : List ℕ) (ts : List Spelled) → IsTokenList limit text ts
    → map plain_of (loose_tokens text) ≡ map plain_of ts
loose_alike limit text ts is =
    let s = is.spelled_so in
    loose_by (length text) (mark_len text) text s.0 s.1 (omega (arith, length-drop (mark_len text) text))
    ∙ ap (map plain_of) s.2
