-- Which pieces are the longest at their place.
use Rattle.proto_tokens.proofs.Common.{common_steps, ◌≡◌, ℕ, zero, suc, ◌+◌, ◌<◌, ◌≤◌, ◌^◌, ◌⊎◌, ◌≢◌, true, false, Option, None, Some, List, [], ◌∷◌, ◌++◌, length, get_or, take, drop, refl, sym, ap, ◌∙◌, inl, inr, append_assoc, arith, get_or-take, get_or-drop, length-drop, length-take-le, ◌-◌, add-zero, get_or-append-add, length-append, IsUtf8, IsCharBoundary, AllPass, prefix_len, is_ascii_digit, is_digit, both_ways, cases_lt, take_more, take_rest, get_or_past, get_or_at, get_or_append_left, nat_tests, prefix_len-le-length, prefix_len_passes, IsCharBoundary-after_ascii, All-cons, All-head, All-weaker, All-get_or, is_blank, is_letter, is_word, is_numeric, is_quote, is_punctuation, is_slash_or_star, is_in_line, begins, Writes, IsNumeral, Lexeme, identifier, number, string_literal, punctuation, IsPiece, IsLongestPiece, IsPieceFault, IsBadNumber, IsLineComment, IsBlockComment, HasNoClose, Kind, TokenError, IsNumeralFault, IsFirstClose, IsFaultAfter}
use Rattle.proto_tokens.specs.declared.token.TokenError.TheVariants as errors
use Rattle.proto_tokens.proofs.Runs.{begins_first, begins_from, begins_second, run_passes, run_longest, run_stops, within_run, run_nonempty}

-- ---- the first byte of a piece

abbrev pub Starts : Option Lexeme → ℕ → Type 0
Starts None b = (is_blank b ≡ true) ⊎ (b ≡ 47)
Starts (Some (identifier name)) b = is_letter b ≡ true
Starts (Some (number n)) b = is_ascii_digit b ≡ true
Starts (Some (string_literal value)) b = is_quote b ≡ true
Starts (Some (punctuation c)) b = is_punctuation b ≡ true

digit_numeric : (base : ℕ) (d : ℕ) → base ≤ 16 → is_digit d base ≡ true → is_numeric d ≡ true
digit_numeric base d small e = grind (arith, nat_tests)

digits_numeric : (base : ℕ) (ds : List ℕ) (n : ℕ) → base ≤ 16 → Writes base ds n → AllPass is_numeric ds
digits_numeric base ds n small w = grind (arith, common_steps, All-weaker, digit_numeric)

-- a numeral is letters and digits, and begins with a digit
pub numeral_numeric : (bs : List ℕ) (n : ℕ) → IsNumeral bs n → AllPass is_numeric bs × (begins is_ascii_digit bs ≡ true)
numeral_numeric bs n (inl hex) = grind (arith, nat_tests, All-cons, digits_numeric)
numeral_numeric bs n (inr (inl octal)) = grind (arith, nat_tests, All-cons, digits_numeric)
numeral_numeric bs n (inr (inr decimal)) = grind (arith, digits_numeric, nat_tests)

-- what a prefix that isn't empty begins with
first_taken : (s : List ℕ) (n : ℕ) → 0 < length (take n s)
    → (0 < n) × (0 < length s) × (get_or (take n s) 0 0 ≡ get_or s 0 0)
first_taken s n long = grind arith

pub starts : (s : List ℕ) (n : ℕ) (piece : Option Lexeme) → IsPiece s n piece
    → (0 < n) × (0 < length s) × Starts piece (get_or s 0 0)
starts s n piece is = grind (arith, All-get_or, begins_first, first_taken s n, numeral_numeric)

-- ---- longest pieces

-- no two kinds of piece begin alike, except with `/`
pub record IsBegunBy (b : ℕ) (piece : Option Lexeme) : Type 0 where
  pub letter : is_letter b ≡ true → (name : List ℕ) × (piece ≡ Some (identifier name))
  pub digit : is_ascii_digit b ≡ true → (n : ℕ) × (piece ≡ Some (number n))
  pub quote : is_quote b ≡ true → (value : List ℕ) × (piece ≡ Some (string_literal value))
  pub slash : b ≡ 47 → (piece ≡ None) ⊎ ((c : ℕ) × (piece ≡ Some (punctuation c)))
  pub blank : is_blank b ≡ true → piece ≡ None
  pub mark : is_punctuation b ≡ true → ((piece ≡ None) × (b ≡ 47)) ⊎ ((c : ℕ) × (piece ≡ Some (punctuation c)))

begun : (b : ℕ) (piece : Option Lexeme) → Starts piece b → IsBegunBy b piece
begun b piece f = record {
  letter = λ e. grind (arith, nat_tests);
  digit = λ e. grind (arith, nat_tests);
  quote = λ e. grind (arith, nat_tests);
  slash = λ e. grind (arith, nat_tests);
  blank = λ e. grind (arith, nat_tests);
  mark = λ e. grind (arith, common_steps, nat_tests);
}

pub begun_by : (s : List ℕ) (n : ℕ) (piece : Option Lexeme) → IsPiece s n piece → IsBegunBy (get_or s 0 0) piece
begun_by s n piece is = begun (get_or s 0 0) piece (starts s n piece is).2

-- a comment begins with `/`
no_comment : (s : List ℕ) (k : ℕ) → 0 < k → is_blank (get_or s 0 0) ≡ true
    → IsLineComment (take k s) ⊎ IsBlockComment (take k s) → ⊥
no_comment s k pos blank comment = grind (arith, both_ways, get_or-take)

-- a `/` that neither `/` nor `*` follows begins no comment
lone_slash : (s : List ℕ) (k : ℕ) → 1 < k → k ≤ length s → get_or s 0 0 ≡ 47
    → begins is_slash_or_star (drop 1 s) ≡ false → IsPiece s k None → ⊥
lone_slash s k lt within slash alone is = grind (arith, All-get_or, begins_second, both_ways, get_or-take)

module _ (s : List ℕ) where
  pub longest_identifier : begins is_letter s ≡ true
      → IsLongestPiece s (prefix_len is_word s) (Some (identifier (take (prefix_len is_word s) s)))
  longest_identifier e =
      let first = begins_first is_letter s e in
      let word : is_word (get_or s 0 0) ≡ true = let f = first.1 in grind (arith, nat_tests) in
      let pos = run_nonempty is_word s (begins_from is_word s first.0 word) in
      let fits = prefix_len-le-length is_word s in
      record {
        fits = fits;
        piece_is = ((grind (arith, begins_from, get_or-take, length-take-le), run_passes is_word s), refl);
        longest = λ k other lt within is.
            let same = (begun_by s k other is).letter first.1 in
            omega (arith, run_longest is_word s k within (rw same.1 at is).0.1);
      }

  pub longest_blanks : begins is_blank s ≡ true → IsLongestPiece s (prefix_len is_blank s) None
  longest_blanks e =
      let first = begins_first is_blank s e in let pos = run_nonempty is_blank s e in
      let fits = prefix_len-le-length is_blank s in
      record {
        fits = fits;
        piece_is = inl (omega (arith, length-take-le (prefix_len is_blank s) s fits), run_passes is_blank s);
        longest = λ k other lt within is.
            let same = (begun_by s k other is).blank first.1 in
            grind (arith, no_comment s k, run_longest is_blank s k within);
      }

  pub longest_number : (n : ℕ) → IsNumeral (take (prefix_len is_numeric s) s) n → n < 2 ^ 64
      → IsLongestPiece s (prefix_len is_numeric s) (Some (number n))
  longest_number n numeral small =
      let first = begins_first is_ascii_digit (take (prefix_len is_numeric s) s) (numeral_numeric _ n numeral).1 in
      let digit : is_ascii_digit (get_or s 0 0) ≡ true =
      grind (arith, get_or-take, length-take-le, prefix_len-le-length) in
      record {
        fits = prefix_len-le-length is_numeric s;
        piece_is = (numeral, small, run_stops is_numeric s);
        longest = λ k other lt within is.
            let same = (begun_by s k other is).digit digit in
            omega (arith, run_longest is_numeric s k within (numeral_numeric _ same.0 (rw same.1 at is).0).0);
      }

  pub bad_number : begins is_ascii_digit s ≡ true → ((n : ℕ) → IsNumeral (take (prefix_len is_numeric s) s) n → ⊥)
      → IsBadNumber s
  bad_number e none = (
    e,
    λ k n within numeral.
        let k_le = run_longest is_numeric s k within (numeral_numeric (take k s) n numeral).0 in
        let k_ne : k ≢ prefix_len is_numeric s = λ same. none n (rw same at numeral) in
        within_run is_numeric s k (omega arith),
  )

  pub number_fault : (kind : Kind) → begins is_ascii_digit s ≡ true
      → IsNumeralFault (take (prefix_len is_numeric s) s) kind → IsPieceFault s 0 kind
  number_fault kind e fault = grind (arith, bad_number, prefix_len-le-length, run_stops)

  pub longest_punctuation : (b : ℕ) → begins is_punctuation s ≡ true → b ≡ get_or s 0 0
      → (b ≡ 47 → begins is_slash_or_star (drop 1 s) ≡ false)
      → IsLongestPiece s 1 (Some (punctuation b))
  longest_punctuation b e b_is alone =
      let first = begins_first is_punctuation s e in
      let one : take 1 s ≡ b ∷ [] = grind arith in
      record {
        fits = omega (arith, first.0);
        piece_is = (one, ap is_punctuation b_is ∙ first.1, alone);
        longest = λ k other lt within is.
            let same = (begun_by s k other is).mark first.1 in
            grind (arith, length-take-le k s, lone_slash s k lt within);
      }

-- ---- comments

no_blanks : (bs : List ℕ) → AllPass is_blank (47 ∷ bs) → ⊥
no_blanks bs blanks = let h = All-head (λ b. is_blank b ≡ true) 47 bs blanks in cc

none_at : (b : ℕ) (rest : List ℕ) (j : ℕ) → IsPiece (47 ∷ b ∷ rest) (suc (suc j)) None
    → ((b ≡ 47) × AllPass is_in_line (take j rest))
    ⊎ ((b ≡ 42) × (body : List ℕ) × (take j rest ≡ body ++ 42 ∷ 47 ∷ []) × HasNoClose body)
none_at b rest j is = grind (arith, no_blanks)

-- a piece that begins with `//` or `/*` is a comment
pub comment_at : (b : ℕ) (rest : List ℕ) (k : ℕ) (w : Option Lexeme) → (b ≡ 47) ⊎ (b ≡ 42) → k ≤ length (47 ∷ b ∷ rest)
    → IsPiece (47 ∷ b ∷ rest) k w
    → (j : ℕ) × (k ≡ suc (suc j)) × (((b ≡ 47) × AllPass is_in_line (take j rest))
    ⊎ ((b ≡ 42) × (body : List ℕ) × (take j rest ≡ body ++ 42 ∷ 47 ∷ []) × HasNoClose body))
comment_at b rest zero w form within is = absurd (omega (arith, (starts (47 ∷ b ∷ rest) 0 w is).0))
comment_at b rest (suc zero) w form within is =
    let first = (begun_by (47 ∷ b ∷ rest) 1 w is).slash refl in grind (arith, nat_tests, no_blanks [])
comment_at b rest (suc (suc j)) w form within is =
    let first = (begun_by (47 ∷ b ∷ rest) (suc (suc j)) w is).slash refl in grind (arith, none_at b rest j)

pub longest_line : (body : List ℕ) → IsLongestPiece (47 ∷ 47 ∷ body) (suc (suc (prefix_len is_in_line body))) None
longest_line body = record {
  fits = omega (arith, prefix_len-le-length is_in_line body);
  piece_is = inr (inl (take (prefix_len is_in_line body) body, refl, run_passes is_in_line body));
  longest = λ k other lt within is.
      grind (arith, comment_at 47 body k other (inl refl) within is, run_longest is_in_line body);
}

-- where a text has the end of a comment
pub close_at : (rest : List ℕ) (j : ℕ) (body : List ℕ) → j ≤ length rest → take j rest ≡ body ++ 42 ∷ 47 ∷ []
    → (j ≡ length body + 2) × (get_or rest (length body) 0 ≡ 42) × (get_or rest (length body + 1) 0 ≡ 47)
    × ((i : ℕ) → i < length body → get_or rest i 0 ≡ get_or body i 0)
close_at rest j body within e =
    let len = ap length e ∙ length-append body (42 ∷ 47 ∷ []) in
    let size = length-take-le j rest within in
    grind (arith, get_or-take, get_or_at, get_or-append-add, get_or_append_left)

module _ (rest : List ℕ) (m : ℕ) (close : IsFirstClose rest m) where
  close_ends : take (suc (suc m)) rest ≡ take m rest ++ 42 ∷ 47 ∷ []
  close_ends = grind (arith, common_steps, append_assoc, take_more)

  no_close_before : HasNoClose (take m rest)
  no_close_before i star slash = grind (arith, get_or-take, get_or_past, length-take-le)

  no_longer_block : (j : ℕ) (body : List ℕ) → suc (suc m) < j → j ≤ length rest → take j rest ≡ body ++ 42 ∷ 47 ∷ []
      → HasNoClose body → ⊥
  no_longer_block j body lt within e none =
      let at = close_at rest j body within e in grind (arith, at.3 m, at.3 (m + 1), cases_lt (m + 1) (length body))

  pub longest_block : IsLongestPiece (47 ∷ 42 ∷ rest) (suc (suc (suc (suc m)))) None
  longest_block = record {
    fits = omega (arith, close.fits);
    piece_is = inr (inr (take m rest, ap (λ (l : List ℕ). 47 ∷ 42 ∷ l) close_ends, no_close_before));
    longest = λ k other lt within is.
        grind (arith, comment_at 42 rest k other (inr refl) within is, no_longer_block);
  }

-- ---- where a source may be cut

pub identifier_boundary : (source : List ℕ) (at : ℕ) → IsUtf8 source → begins is_letter (drop at source) ≡ true
    → IsCharBoundary source (at + prefix_len is_word (drop at source))
identifier_boundary source at utf8 e =
    let n = prefix_len is_word (drop at source) in
    let last = prefix_len_passes is_word (drop at source) (n - 1) 0 in
    let after_last = IsCharBoundary-after_ascii source (at + (n - 1)) utf8 in
    grind (
      arith,
      after_last,
      begins_first,
      begins_from,
      get_or-drop,
      length-drop,
      nat_tests,
      prefix_len-le-length,
      run_nonempty,
    )

-- ---- comments and punctuation, as the code finds them

two_more : (s : List ℕ) (a b : ℕ) → 2 ≤ length s → get_or s 0 0 ≡ a → get_or s 1 0 ≡ b
    → s ≡ a ∷ b ∷ take (length s - 2) (drop 2 s)
two_more s a b long first second = grind (arith, common_steps, take_rest)

pub line_found : (s : List ℕ) (n : ℕ) → 2 ≤ length s → get_or s 0 0 ≡ 47 → get_or s 1 0 ≡ 47
    → n ≡ prefix_len is_in_line (take (length s - 2) (drop 2 s))
    → IsLongestPiece s (n + 2) None
line_found s n long first second n_is = grind (arith, longest_line, two_more)

pub block_found : (s : List ℕ) (m : ℕ) → 2 ≤ length s → get_or s 0 0 ≡ 47 → get_or s 1 0 ≡ 42
    → IsFirstClose (take (length s - 2) (drop 2 s)) m
    → IsLongestPiece s (m + 4) None
block_found s m long first second close =
    let here = two_more s 47 42 long first second in
    let found = longest_block (take (length s - 2) (drop 2 s)) m close in
    grind arith

-- a byte that no `/` or `*` follows
pub alone_here : (s : List ℕ) → (1 < length s → (get_or s 1 0 ≢ 47) × (get_or s 1 0 ≢ 42))
    → begins is_slash_or_star (drop 1 s) ≡ false
alone_here s none = grind (arith, nat_tests)

pub fault_here : (s rest : List ℕ) (at : ℕ) (kind : Kind) (e : TokenError) → rest ≡ s → IsPieceFault rest 0 kind
    → e ≡ errors.At (record { offset = at }) kind
    → IsFaultAfter s at e
fault_here s rest at kind e same fault e_is =
    rw e_is (0, rw (← same) fault, sym (add-zero at))

pub found_identifier : (s name : List ℕ) → begins is_letter s ≡ true → name ≡ take (prefix_len is_word s) s
    → IsLongestPiece s (length name) (Some (identifier name))
found_identifier s name e name_is = grind (arith, length-take-le, longest_identifier, prefix_len-le-length)
