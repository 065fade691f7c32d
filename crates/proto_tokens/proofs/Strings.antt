-- Strings, part after part.
use Rattle.proto_tokens.proofs.Common.{◌≡◌, ℕ, zero, suc, ◌+◌, ◌<◌, ◌≤◌, true, false, Some, List, [], ◌∷◌, ◌++◌, length, get_or, take, drop, ◌⊎◌, refl, sym, ap, subst, ◌∙◌, inl, inr, arith, append_assoc, length-take-le, length-drop, get_or-take, add-zero, zero-add, slice_range, take-suc, append-nil, get_or-drop, IsCharBoundary, IsUtf8, prefix_len, both_ways, nat_tests, drop_more, flat_map_more, prefix_len-le-length, prefix_len_passes, TokenError, is_quote, begins, IsCharBoundary-after_ascii, string_literal, IsPiece, IsLongestPiece, HasNoEscape, IsClosed, IsFaultAfter}
use Rattle.proto_base.specs.declared.kind.Kind.TheVariants as kinds
use Rattle.proto_tokens.specs.declared.token.TokenError.TheVariants as errors
use Rattle.proto_tokens.specs.Cut.{IsCutInto}
use Rattle.proto_tokens.specs.Quoted.{IsOpened, Part, IsPart, IsPartFault, HasByteAt, IsString, is_plain, value_of}
use Rattle.proto_tokens.specs.Escape.{Escaped, IsAllowedEscape, escaped_bytes}
use Rattle.proto_tokens.proofs.CutLemmas.{cut_more, cut_one}
use Rattle.proto_tokens.proofs.Escapes.{escape_begins, escape_one}
use Rattle.proto_tokens.proofs.Pieces.{begun_by}

-- behind the quote the bytes up to a place have this value
pub record IsReadUpTo (quote : ℕ) (after value : List ℕ) (end : ℕ) : Type 0 where
  pub within : end ≤ length after
  pub parts : List Part
  pub cut : IsCutInto (IsPart quote) (λ p. p.len) after 0 parts end
  pub value_is : value ≡ value_of parts

read_part : (quote : ℕ) (after value : List ℕ) (end : ℕ) (p : Part) → IsReadUpTo quote after value end
    → IsPart quote (drop end after) p
    → end + p.len ≤ length after → IsReadUpTo quote after (value ++ p.value) (end + p.len)
read_part quote after value end p so_far is within = record {
  within = within;
  parts = so_far.parts ++ p ∷ [];
  cut = cut_more (IsPart quote) (λ p. p.len) after 0 so_far.parts end p so_far.cut is;
  value_is = rw so_far.value_is (flat_map_more (λ (p : Part). p.value) [] so_far.parts p);
}

pub read_escape : (quote : ℕ) (after value more : List ℕ) (end len : ℕ) (e : Escaped) → IsReadUpTo quote after value end
    → end < length after
    → get_or after end 0 ≡ 92 → IsAllowedEscape (92 ∷ drop (end + 1) after) len e
    → more ≡ value ++ escaped_bytes e → IsReadUpTo quote after more (end + len)
read_escape quote after value more end len e so_far lt backslash allowed more_is =
    let here : drop end after ≡ 92 ∷ drop (end + 1) after = drop_more after end 0 lt ∙ rw backslash refl in
    let is : IsAllowedEscape (drop end after) len e = rw here allowed in
    rw more_is (read_part quote after value end (record { len = len; value = escaped_bytes e }) so_far
    (inr (e, is, refl)) (omega (arith, is.0.fits, length-drop end after)))

-- one plain byte after another
pub read_run : (quote : ℕ) (after value : List ℕ) (end n : ℕ) → IsReadUpTo quote after value end
    → n ≤ prefix_len (is_plain quote) (drop end after)
    → IsReadUpTo quote after (value ++ take n (drop end after)) (end + n)
read_run quote after value end zero so_far le = rw (append-nil value, add-zero end) so_far
read_run quote after value end (suc n) so_far le =
    let before = read_run quote after value end n so_far (omega arith) in
    let b = get_or after (end + n) 0 in
    let longest = prefix_len-le-length (is_plain quote) (drop end after) in
    let lt : end + n < length after = omega (arith, longest, length-drop end after) in
    let plain : is_plain quote b ≡ true =
    rw get_or-drop at (prefix_len_passes (is_plain quote) (drop end after) n 0 (omega arith)) in
    let is : IsPart quote (drop (end + n) after) (record { len = 1; value = b ∷ [] }) =
    inl (b, drop (end + n + 1) after, drop_more after (end + n) 0 lt, plain, refl, refl) in
    let next = read_part quote after (value ++ take n (drop end after)) (end + n) _ before is (omega arith) in
    let place : end + suc n ≡ end + n + 1 = omega arith in
    rw (take-suc (drop end after) n 0 (omega (arith, longest)), get_or-drop, ← append_assoc, place) next

-- the plain bytes at the front
pub read_plain : (quote : ℕ) (after value : List ℕ) (n : ℕ) → n ≡ prefix_len (is_plain quote) after
    → value ≡ take n after → IsReadUpTo quote after value n
read_plain quote after value n n_is value_is =
    let none : IsReadUpTo quote after [] 0 = record { within = omega arith; parts = []; cut = refl; value_is = refl } in
    rw value_is (subst (IsReadUpTo quote after (take n after)) (zero-add n)
    (read_run quote after [] 0 n none (omega (arith, n_is))))

opened_by : (quote : ℕ) (after value : List ℕ) (end : ℕ) → is_quote quote ≡ true
    → (read : IsReadUpTo quote after value end) → IsOpened (quote ∷ after) quote after read.parts end
opened_by quote after value end e read =
    record { begins_so = refl; quote_is = e; cut = read.cut; within = read.within }

-- ---- where no part stands

-- an escape begins with a backslash
pub escape_first : (s : List ℕ) (b : ℕ) (rest : List ℕ) (n : ℕ) (e : Escaped) → s ≡ b ∷ rest
    → IsAllowedEscape s n e → b ≡ 92
escape_first s b rest n e s_is allowed = grind (arith, escape_begins, get_or-take, length-take-le)

pub not_plain : (quote b : ℕ) → b ≡ 92 → is_plain quote b ≡ false
not_plain quote b e = grind (arith, nat_tests)

-- at a byte that isn't plain no part stands, but an escape
pub no_part : (quote : ℕ) (after : List ℕ) (end b : ℕ) → HasByteAt after end b → is_plain quote b ≡ false
    → (b ≡ 92 → HasNoEscape (drop end after)) → (p : Part) → IsPart quote (drop end after) p → ⊥
no_part quote after end b at off none p is =
    let here : drop end after ≡ b ∷ drop (end + 1) after = drop_more after end 0 at.0 ∙ rw at.1 refl in
    grind (arith, both_ways, escape_first, not_plain)

-- ---- one cutting alone

part_one : (quote : ℕ) (s : List ℕ) (p q : Part) → IsPart quote s p → IsPart quote s q → p ≡ q
part_one quote s p q a b = grind (arith, both_ways, escape_first, escape_one, not_plain)

pub opened_one : {s a b : List ℕ} {q r m n : ℕ} {ps qs : List Part} → IsOpened s q a ps m → IsOpened s r b qs n
    → ((p : Part) → IsPart q (drop m a) p → ⊥) → ((p : Part) → IsPart r (drop n b) p → ⊥)
    → (q ≡ r) × (a ≡ b) × (ps ≡ qs) × (m ≡ n)
opened_one {s} {a} {b} {q} {r} {m} {n} {ps} {qs} x y no_m no_n =
    let one = cut_one (IsPart q) (λ p. p.len) (part_one q) a 0 ps qs m n x.cut (grind arith) no_m
    (λ p is. no_n p (grind arith)) in
    grind arith

-- no part stands at the closing quote
pub no_part_at_quote : (quote : ℕ) (after : List ℕ) (end : ℕ) → is_quote quote ≡ true → HasByteAt after end quote
    → (p : Part) → IsPart quote (drop end after) p → ⊥
no_part_at_quote quote after end quote_is closes =
    no_part quote after end quote closes (grind (arith, nat_tests)) (λ e. absurd (grind (arith, nat_tests)))

pub string_one : (s : List ℕ) (m n : ℕ) (v w : List ℕ) → IsString s m v → IsString s n w → (m ≡ n) × (v ≡ w)
string_one s m n v w a b =
    let one = opened_one a.4 b.4 (no_part_at_quote a.0 a.1 a.3 a.4.quote_is a.5)
    (no_part_at_quote b.0 b.1 b.3 b.4.quote_is b.5) in
    grind arith

longest_string : (s : List ℕ) (n : ℕ) (value : List ℕ) → IsString s n value
    → IsLongestPiece s n (Some (string_literal value))
longest_string s n value is = record {
  fits = let h = is.5.0 in omega (arith, is.6, ap length is.4.begins_so, h);
  piece_is = is;
  longest = λ k other lt within other_is.
      let first : is_quote (get_or s 0 0) ≡ true = rw is.4.begins_so is.4.quote_is in
      let same = (begun_by s k other other_is).quote first in
      omega (arith, (string_one s n k value same.0 is (subst (IsPiece s k) same.1 other_is)).0);
}

module _ (source bytes after : List ℕ) (at : ℕ) (lt : at < length source) (same : bytes ≡ source)
    (after_is : after ≡ drop (at + 1) bytes) where
  quote_here : drop at source ≡ get_or bytes at 0 ∷ after
  quote_here = drop_more source at 0 lt ∙ rw (after_is, same) refl

  pub found_string : (value text : List ℕ) (end : ℕ) → IsClosed (get_or bytes at 0) after value end → text ≡ value
      → IsUtf8 text → IsLongestPiece (drop at source) (end + 2) (Some (string_literal text))
  found_string value text end closed text_is utf8 =
      longest_string (drop at source) (end + 2) text (rw quote_here
      (get_or bytes at 0, after, closed.0, end, closed.1, closed.2, refl, text_is ∙ closed.3, utf8))

  -- a string that closes with a value that is no text
  pub not_text : (value : List ℕ) (end : ℕ) (e : TokenError) → IsClosed (get_or bytes at 0) after value end
      → (IsUtf8 value → false ≡ true) → e ≡ errors.At (record { offset = at }) kinds.BadEscape
      → IsFaultAfter (drop at source) at e
  not_text value end e closed no_text e_is =
      let no : IsUtf8 (value_of closed.0) → ⊥ = λ utf8. let h = no_text (rw closed.3 utf8) in cc in
      let fault : IsPartFault (get_or bytes at 0) after closed.0 end 0 kinds.BadEscape =
      inr (inl (refl, refl, closed.2, no)) in
      rw (e_is, quote_here)
      (0, inr (inr (inr (inr (get_or bytes at 0, after, closed.0, end, closed.1, fault)))), sym (add-zero at))

  -- a string without escapes
  pub plain_string : (n : ℕ) (text : List ℕ) → begins is_quote (drop at source) ≡ true
      → n ≡ prefix_len (is_plain (get_or bytes at 0)) after → HasByteAt after n (get_or bytes at 0)
      → text ≡ slice_range source (at + 1) (at + 1 + n) → IsUtf8 text
      → IsLongestPiece (drop at source) (n + 2) (Some (string_literal text))
  plain_string n text e n_is closes text_is utf8 =
      let quote = get_or bytes at 0 in
      let read = read_plain quote after (take n after) n n_is refl in
      let opened = opened_by quote after (take n after) n (ap (begins is_quote) (sym quote_here) ∙ e) read in
      found_string (take n after) text n (read.parts, opened, closes, read.value_is) (grind arith) utf8

pub after_quote_boundary : (source : List ℕ) (at : ℕ) → IsUtf8 source → at < length source
    → begins is_quote (drop at source) ≡ true
    → IsCharBoundary source (at + 1)
after_quote_boundary source at utf8 lt e =
    grind (arith, IsCharBoundary-after_ascii, drop_more, nat_tests)

-- the text or its line ends before the string closes
pub unclosed_here : (quote : ℕ) (after value : List ℕ) (end at : ℕ) (e : TokenError) → is_quote quote ≡ true
    → IsReadUpTo quote after value end → (length after ≤ end) ⊎ HasByteAt after end 10
    → e ≡ errors.At (record { offset = at }) kinds.UnclosedString → IsFaultAfter (quote ∷ after) at e
unclosed_here quote after value end at e quote_is so_far ends e_is = grind (arith, add-zero)

-- a backslash at which no escape stands
pub no_escape_here : (quote : ℕ) (after value behind : List ℕ) (end at : ℕ) (e : TokenError) → is_quote quote ≡ true
    → IsReadUpTo quote after value end
    → end < length after → get_or after end 0 ≡ 92 → behind ≡ drop (end + 1) after → HasNoEscape (92 ∷ behind)
    → e ≡ errors.At (record { offset = at + (end + 1) }) kinds.BadEscape → IsFaultAfter (quote ∷ after) at e
no_escape_here quote after value behind end at e quote_is so_far lt backslash behind_is none e_is =
    let here : drop end after ≡ 92 ∷ behind = drop_more after end 0 lt ∙ rw (backslash, behind_is) refl in
    let no = no_part quote after end 92 (lt, backslash) (not_plain quote 92 refl) (λ b. rw here none) in
    let opened = opened_by quote after value end quote_is so_far in
    let fault : IsPartFault quote after so_far.parts end (end + 1) kinds.BadEscape =
    inl (refl, refl, (lt, backslash), no) in
    rw e_is (end + 1, inr (inr (inr (inr (quote, after, so_far.parts, end, opened, fault)))), refl)
