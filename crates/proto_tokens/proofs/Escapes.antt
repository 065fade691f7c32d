-- Escapes: which is the longest, and where none stands.
use Rattle.proto_tokens.proofs.Common.{common_steps, ◌-◌, ◌≡◌, ◌≢◌, ℕ, zero, suc, ◌+◌, ◌<◌, ◌≤◌, ◌⊎◌, true, None, Some, List, [], ◌∷◌, length, get_or, take, refl, ap, inl, inr, arith, length-take-le, slice_get, take-take, length-take, prefix_len, is_digit, IsScalar, nat_tests, prefix_len-le-length, All-head, begins, Writes, digits_value, HasNoEscape}
use Rattle.proto_tokens.specs.Escape.{Escaped, byte, character, simple_escape, IsEscape, IsAllowedEscape}
use Rattle.proto_tokens.proofs.Runs.{run_passes, run_longest, run_nonempty}

pub escape_begins : (bs : List ℕ) (e : Escaped) → IsEscape bs e → (2 ≤ length bs) × (get_or bs 0 0 ≡ 92)
escape_begins bs e is = grind arith

-- the byte behind the backslash is none of those that begin a longer escape
abbrev pub IsSimpleForm : ℕ → Type 0
IsSimpleForm c = ((c < 48) ⊎ (56 ≤ c)) × (c ≢ 120) × (c ≢ 88) × (c ≢ 117) × (c ≢ 85)

simple_form : (c n : ℕ) → simple_escape c ≡ Some n → IsSimpleForm c
simple_form c n e = grind (arith, nat_tests)

digit_form : (c : ℕ) → is_digit c 8 ≡ true → (48 ≤ c) × (c < 56)
digit_form c e = grind (arith, nat_tests)

-- the escape by the first byte behind the backslash and those behind it
abbrev pub EscapeBy : ℕ → List ℕ → Escaped → Type 0
EscapeBy c bs (byte n) = (IsSimpleForm c × (bs ≡ []) × (simple_escape c ≡ Some n))
    ⊎ (((48 ≤ c) × (c < 56) × (length bs ≤ 2) × Writes 8 (c ∷ bs) n)
    ⊎ (((c ≡ 120) ⊎ (c ≡ 88)) × (0 < length bs) × (length bs ≤ 2) × Writes 16 bs n))
EscapeBy c bs (character n) = (((c ≡ 117) × (length bs ≡ 4)) ⊎ ((c ≡ 85) × (length bs ≡ 8))) × Writes 16 bs n

escape_by : (b c : ℕ) (bs : List ℕ) (e : Escaped) → IsEscape (b ∷ c ∷ bs) e → EscapeBy c bs e
escape_by b c bs (byte n) (inl simple) = grind (arith, simple_form)
escape_by b c bs (byte n) (inr (inl octal)) =
    let same : octal.0 ≡ c ∷ bs = let e : b ∷ c ∷ bs ≡ 92 ∷ octal.0 = octal.1 in cc in
    let writes = rw same at octal.4 in
    let form = digit_form c (All-head (λ d. is_digit d 8 ≡ true) c bs writes.digits_of_base) in
    inr (inl (form.0, form.1, omega (arith, octal.3, ap length same), writes))
escape_by b c bs (byte n) (inr (inr hex)) = grind arith
escape_by b c bs (character n) unicode = grind arith

pub escape_at : (b c : ℕ) (rest : List ℕ) (k : ℕ) (e : Escaped) → k ≤ length (b ∷ c ∷ rest)
    → IsEscape (take k (b ∷ c ∷ rest)) e
    → (j : ℕ) × (k ≡ suc (suc j)) × (length (take j rest) ≡ j) × EscapeBy c (take j rest) e
escape_at b c rest zero e within is = absurd (omega (arith, (escape_begins [] e is).0))
escape_at b c rest (suc zero) e within is = absurd (omega (arith, (escape_begins (b ∷ []) e is).0))
escape_at b c rest (suc (suc j)) e within is =
    (j, refl, length-take-le j rest (omega arith), escape_by b c (take j rest) e is)

one_by : (c : ℕ) (bs : List ℕ) (d e : Escaped) → EscapeBy c bs d → EscapeBy c bs e → d ≡ e
one_by c bs d e x y = grind arith

pub escape_one : (bs : List ℕ) (d e : Escaped) → IsEscape bs d → IsEscape bs e → d ≡ e
escape_one (b ∷ c ∷ bs) d e x y = one_by c bs d e (escape_by b c bs d x) (escape_by b c bs e y)
escape_one bs d e x y = grind (arith, escape_begins)

-- the first bytes of the text are fixed, and from one to most digits of a base may follow
pub record EscapesByDigits (s digits : List ℕ) (head most base : ℕ) : Type 0 where
  pub long : length s ≡ head + length digits
  pub into : (j n : ℕ) → 0 < j → j ≤ most → j ≤ length digits → Writes base (take j digits) n
      → IsEscape (take (head + j) s) (byte n)
  pub out : (k : ℕ) (e : Escaped) → k ≤ length s → IsEscape (take k s) e
      → (n : ℕ) × (head < k) × (k ≤ head + most) × (e ≡ byte n) × Writes base (take (k - head) digits) n

module _ (s digits : List ℕ) (head most base : ℕ) (by : EscapesByDigits s digits head most base) (m : ℕ)
    (m_is : m ≡ prefix_len (λ d. is_digit d base) (take most digits)) where
  m_fits : (m ≤ most) × (m ≤ length digits)
  m_fits = grind (arith, length-take, prefix_len-le-length)

  all_written : Writes base (take m digits) (digits_value base (take m digits))
  all_written = record {
    digits_of_base =
        rw (← take-take m most digits m_fits.0, m_is) (run_passes (λ d. is_digit d base) (take most digits));
    value = refl;
  }

  no_more : (j n : ℕ) → j ≤ most → j ≤ length digits → Writes base (take j digits) n → j ≤ m
  no_more j n at_most within writes = grind (arith, length-take, run_longest, take-take)

  pub digits_found : (v : ℕ) → 0 < m → v ≡ digits_value base (take m digits) → v < 256
      → IsAllowedEscape s (head + m) (byte v)
  digits_found v pos v_is small =
      let fits = m_fits in let written = all_written in grind (arith, by.into m v, by.long, by.out, no_more)

  pub digits_refused : (0 < m → 256 ≤ digits_value base (take m digits)) → HasNoEscape s
  digits_refused big n e allowed =
      let value = digits_value base (take m digits) in
      let o = by.out n e allowed.0.fits allowed.0.escape_is in
      let most_m = no_more (n - head) o.0 (omega arith) (omega (arith, by.long, allowed.0.fits)) o.4 in
      grind (arith, by.long, big, allowed.0.longest (head + m) (byte value), by.into m value, m_fits, all_written)

octal_only : (c : ℕ) (bs : List ℕ) (e : Escaped) → (48 ≤ c) × (c < 56) → EscapeBy c bs e
    → (n : ℕ) × (length bs ≤ 2) × (e ≡ byte n) × Writes 8 (c ∷ bs) n
octal_only c bs e form by = grind arith

pub octal_by_digits : (digits : List ℕ) → begins (λ d. is_digit d 8) digits ≡ true
    → EscapesByDigits (92 ∷ digits) digits 1 3 8
octal_by_digits [] begins_so = absurd (grind arith)
octal_by_digits (c ∷ rest) begins_so = record {
  long = omega arith;
  into = λ j n pos at_most within writes.
      let len = length-take-le j (c ∷ rest) within in
      let same : 1 + j ≡ suc j = omega arith in
      rw same (grind arith);
  out = λ k e within is.
      let o = escape_at 92 c rest k e within is in
      let same : k - 1 ≡ suc o.0 = omega (arith, o.1) in
      let p = octal_only c (take o.0 rest) e (digit_form c begins_so) o.3 in
      (p.0, omega (arith, o.1), omega (arith, o.1, o.2, p.1), p.2, rw same p.3);
}

module _ (x : ℕ) (form : (x ≡ 120) ⊎ (x ≡ 88)) (digits : List ℕ) where
  hex_only : (bs : List ℕ) (e : Escaped) → EscapeBy x bs e
      → (n : ℕ) × (0 < length bs) × (length bs ≤ 2) × (e ≡ byte n) × Writes 16 bs n
  hex_only bs e by = grind arith

  pub hex_by_digits : EscapesByDigits (92 ∷ x ∷ digits) digits 2 2 16
  hex_by_digits = record {
    long = omega arith;
    into = λ j n pos at_most within writes.
        let len = length-take-le j digits within in
        let same : 2 + j ≡ suc (suc j) = omega arith in
        rw same (grind arith);
    out = λ k e within is.
        let o = escape_at 92 x digits k e within is in
        let same : k - 2 ≡ o.0 = omega (arith, o.1) in
        let p = hex_only (take o.0 digits) e o.3 in
        (p.0, omega (arith, o.1, o.2, p.1), omega (arith, o.1, o.2, p.2), p.3, rw same p.4);
  }

module _ (u count : ℕ) (form : ((u ≡ 117) × (count ≡ 4)) ⊎ ((u ≡ 85) × (count ≡ 8))) (digits : List ℕ) where
  unicode_at : (k : ℕ) (e : Escaped) → k ≤ length (92 ∷ u ∷ digits) → IsEscape (take k (92 ∷ u ∷ digits)) e
      → (n : ℕ) × (k ≡ count + 2) × (e ≡ character n) × Writes 16 (take count digits) n
  unicode_at k e within is = let o = escape_at 92 u digits k e within is in grind arith

  pub character_found : (n : ℕ) → count ≤ length digits → Writes 16 (take count digits) n → IsScalar n
      → IsAllowedEscape (92 ∷ u ∷ digits) (count + 2) (character n)
  character_found n within writes scalar = grind (arith, length-take-le, unicode_at)

  pub character_refused : ((n : ℕ) → count ≤ length digits → Writes 16 (take count digits) n → IsScalar n → ⊥)
      → HasNoEscape (92 ∷ u ∷ digits)
  character_refused none n e allowed = grind (arith, unicode_at)

pub digits_begin : (digits : List ℕ) (most m : ℕ) → begins (λ d. is_digit d 8) digits ≡ true → 0 < most
    → m ≡ prefix_len (λ d. is_digit d 8) (take most digits)
    → 0 < m
digits_begin digits most m e pos m_is = grind (arith, common_steps, run_nonempty)

-- ---- the simple escapes

pub simple_behind : (after : List ℕ) (c n : ℕ) → Some c ≡ slice_get after 0 → Some n ≡ simple_escape c → n < 256
    → IsAllowedEscape (92 ∷ after) 2 (byte n)
simple_behind [] c n at simple small = absurd cc
simple_behind (b ∷ after) c n at simple small = grind (arith, escape_at 92 b after, simple_form)

pub none_behind : (after : List ℕ) (c : ℕ) → Some c ≡ slice_get after 0 → IsSimpleForm c → None ≡ simple_escape c
    → HasNoEscape (92 ∷ after)
none_behind [] c at form none = absurd cc
none_behind (b ∷ after) c at form none = λ n e allowed. grind (arith, escape_at 92 b after n e)
