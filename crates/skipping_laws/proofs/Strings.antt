-- Strings and comments of the language, as loose tokens find their ends.
use Rattle.std.proofs.Common.{◌≡◌, ℕ, zero, suc, ◌+◌, ◌≤◌, Bool, true, false, not, ◌&&◌, ◌||◌, ◌==◌, List, [], ◌∷◌, ◌++◌, length, take, drop, Option, None, Some, option_map, refl, sym, ap, ◌∙◌, arith, inl, inr, drop-drop, length-take-le, zero-add, get_or}
use Rattle.std.proofs.lemmas.Bool.Decides.{nat_tests}
use Rattle.std.proofs.lemmas.List.{drop_more}
use Rattle.std.proofs.lemmas.List.Elements.{All-nil, All-head, All-tail, All-weaker}
use Rattle.std.specs.Char.{is_digit}
use Rattle.std.specs.List.{AllPass}
use Rattle.proto_tokens.proofs.Escapes.{EscapeBy, escape_at, escape_begins}
use Rattle.proto_tokens.proofs.Strings.{escape_first}
use Rattle.proto_tokens.specs.Bytes.{is_quote}
use Rattle.proto_tokens.specs.Cut.{IsCutInto}
use Rattle.proto_tokens.specs.Escape.{Escaped, byte, character, IsAllowedEscape, simple_escape}
use Rattle.proto_tokens.specs.Numeral.{Writes}
use Rattle.proto_tokens.specs.Piece.{HasNoClose}
use Rattle.proto_tokens.specs.Quoted.{Part, IsPart, HasByteAt, is_plain}
use Rattle.source_skip.specs.Pieces.{comment_len, string_len}

-- ---- what stands behind bytes that are passed

one_more : (n : ℕ) → 1 + n ≡ suc n
one_more n = omega arith

none_before : (o : Option ℕ) → o ≡ option_map (λ n. 0 + n) o
none_before None = refl
none_before (Some n) = ap (λ (k : ℕ). Some k) (sym (zero-add n))

one_before : (o : Option ℕ) → option_map suc o ≡ option_map (λ n. 1 + n) o
one_before None = refl
one_before (Some n) = ap (λ (k : ℕ). Some k) (sym (one_more n))

more_before : (k : ℕ) (o : Option ℕ) → option_map suc (option_map (λ n. k + n) o) ≡ option_map (λ n. suc k + n) o
more_before k None = refl
more_before k (Some n) = let e : suc (k + n) ≡ suc k + n = omega arith in ap (λ (k : ℕ). Some k) e

-- ---- strings

none_of : (p q r s : Bool) → not (p || (q || (r || s))) ≡ true
    → (p ≡ false) × (q ≡ false) × ((r || s) ≡ false)
none_of false false false false h = (refl, refl, refl)
none_of p q r s h = cc

-- a byte that stands for itself
plain_more : (quote b : ℕ) (bs : List ℕ) → is_plain quote b ≡ true
    → string_len quote false (b ∷ bs) ≡ option_map suc (string_len quote false bs)
plain_more quote b bs h =
    let k = none_of (b == quote) (b == 92) (b == 10) (b == 0) h in rw (k.2, k.0, k.1) refl

-- a byte behind a backslash
taken_more : (quote b : ℕ) (bs : List ℕ) → (b == 10 || b == 0) ≡ false
    → string_len quote true (b ∷ bs) ≡ option_map suc (string_len quote false bs)
taken_more quote b bs h = rw h refl

-- a backslash
backslash_more : (quote : ℕ) (bs : List ℕ) → (92 == quote) ≡ false
    → string_len quote false (92 ∷ bs) ≡ option_map suc (string_len quote true bs)
backslash_more quote bs h = rw h refl

plain_run : (quote j : ℕ) (bs : List ℕ) → j ≤ length bs → AllPass (is_plain quote) (take j bs)
    → string_len quote false bs ≡ option_map (λ n. j + n) (string_len quote false (drop j bs))
plain_run quote zero bs within all = none_before (string_len quote false bs)
plain_run quote (suc j) [] within all = absurd (omega (arith, within))
plain_run quote (suc j) (b ∷ bs) within all =
    let P : ℕ → Type 0 = λ c. is_plain quote c ≡ true in
    plain_more quote b bs (All-head P b (take j bs) all)
    ∙ ap (option_map suc) (plain_run quote j bs (omega (arith, within)) (All-tail P b (take j bs) all))
    ∙ more_before j (string_len quote false (drop j bs))

digit_plain : (quote base d : ℕ) → base ≤ 16 → is_quote quote ≡ true → is_digit d base ≡ true
    → is_plain quote d ≡ true
digit_plain quote base d small q h = grind (arith, nat_tests)

digits_plain : (quote base : ℕ) (ds : List ℕ) (n : ℕ) → base ≤ 16 → is_quote quote ≡ true → Writes base ds n
    → AllPass (is_plain quote) ds
digits_plain quote base ds n small q w = All-weaker (λ d. is_digit d base ≡ true) (λ d. is_plain quote d ≡ true)
    (λ d h. digit_plain quote base d small q h) ds w.digits_of_base

record GoesOn (quote c : ℕ) (bs : List ℕ) : Type 0 where
  taken : (c == 10 || c == 0) ≡ false
  plain : AllPass (is_plain quote) bs

simple_taken : (c n : ℕ) → simple_escape c ≡ Some n → (c == 10 || c == 0) ≡ false
simple_taken c n h = grind (arith, nat_tests)

between_taken : (c : ℕ) → 11 ≤ c → (c == 10 || c == 0) ≡ false
between_taken c h = grind (arith, nat_tests)

escape_goes_on : (quote c : ℕ) (bs : List ℕ) (e : Escaped) → is_quote quote ≡ true → EscapeBy c bs e
    → GoesOn quote c bs
escape_goes_on quote c bs (byte n) q (inl (form, empty, simple)) = record {
  taken = simple_taken c n simple;
  plain = rw empty (All-nil (λ d. is_plain quote d ≡ true));
}
escape_goes_on quote c bs (byte n) q (inr (inl (low, high, short, writes))) = record {
  taken = between_taken c (omega (arith, low));
  plain = All-tail (λ d. is_plain quote d ≡ true) c bs
      (digits_plain quote 8 (c ∷ bs) n (omega arith) q writes);
}
escape_goes_on quote c bs (byte n) q (inr (inr (x, some, short, writes))) = record {
  taken = between_taken c (omega (arith, x));
  plain = digits_plain quote 16 bs n (omega arith) q writes;
}
escape_goes_on quote c bs (character n) q (form, writes) = record {
  taken = between_taken c (omega (arith, form));
  plain = digits_plain quote 16 bs n (omega arith) q writes;
}

not_backslash : (quote : ℕ) → is_quote quote ≡ true → (92 == quote) ≡ false
not_backslash quote q = grind (arith, nat_tests)

escape_passed : (quote j c : ℕ) (rest : List ℕ) → is_quote quote ≡ true → j ≤ length rest
    → GoesOn quote c (take j rest)
    → string_len quote false (92 ∷ c ∷ rest)
    ≡ option_map (λ n. suc (suc j) + n) (string_len quote false (drop j rest))
escape_passed quote j c rest q within on =
    backslash_more quote (c ∷ rest) (not_backslash quote q)
    ∙ ap (option_map suc) (taken_more quote c rest on.taken)
    ∙ ap (λ o. option_map suc (option_map suc o)) (plain_run quote j rest within on.plain)
    ∙ ap (option_map suc) (more_before j (string_len quote false (drop j rest)))
    ∙ more_before (suc j) (string_len quote false (drop j rest))

escape_found : (quote : ℕ) (s : List ℕ) (len : ℕ) (e : Escaped) → is_quote quote ≡ true → IsAllowedEscape s len e
    → string_len quote false s ≡ option_map (λ n. len + n) (string_len quote false (drop len s))
escape_found quote [] len e q allowed = absurd (omega (
  arith,
  (escape_begins (take len []) e allowed.0.escape_is).0,
  length-take-le {A = ℕ} len [] allowed.0.fits,
  allowed.0.fits,
))
escape_found quote (b ∷ []) len e q allowed = absurd (omega (
  arith,
  (escape_begins (take len (b ∷ [])) e
      allowed.0.escape_is).0,
  length-take-le {A = ℕ} len (b ∷ []) allowed.0.fits,
  allowed.0.fits,
))
escape_found quote (b ∷ c ∷ rest) len e q allowed =
    let first : b ≡ 92 = escape_first (b ∷ c ∷ rest) b (c ∷ rest) len e refl allowed in
    let at = escape_at b c rest len e allowed.0.fits allowed.0.escape_is in
    let on = escape_goes_on quote c (take at.0 rest) e q at.3 in
    let within : at.0 ≤ length rest = omega (arith, at.1, allowed.0.fits) in
    rw (first, at.1) (escape_passed quote at.0 c rest q within on)

part_found : (quote : ℕ) (s : List ℕ) (p : Part) → is_quote quote ≡ true → IsPart quote s p
    → string_len quote false s ≡ option_map (λ n. p.len + n) (string_len quote false (drop p.len s))
part_found quote s p q (inl (b, rest, s_is, plain, len, value)) =
    rw (s_is, len) (plain_more quote b rest plain ∙ one_before (string_len quote false rest))
part_found quote s p q (inr (e, allowed, value)) = escape_found quote s p.len e q allowed

quote_ends : (quote : ℕ) (bs : List ℕ) → is_quote quote ≡ true → string_len quote false (quote ∷ bs) ≡ Some 1
quote_ends quote bs q =
    let p : (quote == 10 || quote == 0) ≡ false = grind (arith, nat_tests) in
    let r : (quote == quote) ≡ true = grind (arith, nat_tests) in
    rw (p, r) refl

-- the closing quote ends behind what the parts take
pub string_found : (quote : ℕ) (after : List ℕ) → is_quote quote ≡ true → (from : ℕ) (parts : List Part) (end : ℕ)
    → IsCutInto (IsPart quote) (λ p. p.len) after from parts end → HasByteAt after end quote
    → (m : ℕ) × (string_len quote false (drop from after) ≡ Some m) × (from + m ≡ end + 1)
string_found quote after q from [] end cut closes =
    let here : drop end after ≡ quote ∷ drop (end + 1) after =
    drop_more after end 0 closes.0 ∙ rw closes.1 refl in
    (1, rw (cut, here) (quote_ends quote (drop (end + 1) after) q), omega (arith, cut))
string_found quote after q from (p ∷ ps) end cut closes =
    let rest = string_found quote after q (from + p.len) ps end cut.1 closes in
    let found = part_found quote (drop from after) p q cut.0 in
    (p.len + rest.0, rw (found, drop-drop p.len from after, rest.1) refl, omega (arith, rest.2))

-- ---- comments

shifted : (b : ℕ) (body : List ℕ) → HasNoClose (b ∷ body) → HasNoClose body
shifted b body none i star slash = let e : suc i + 1 ≡ suc (i + 1) = omega arith in none (suc i) star (rw e slash)

not_both : (star : Bool) (b : ℕ) → (star ≡ true → b ≡ 47 → ⊥) → (star && b == 47) ≡ false
not_both true b h = grind (arith, nat_tests)
not_both false b h = refl

pub comment_found : (star : Bool) (body more : List ℕ) → HasNoClose body → (star ≡ true → get_or body 0 0 ≡ 47 → ⊥)
    → comment_len star (body ++ 42 ∷ 47 ∷ more) ≡ Some (2 + length body)
comment_found true [] more none clear = refl
comment_found false [] more none clear = refl
comment_found star (b ∷ body) more none clear =
    let here : (star && b == 47) ≡ false = not_both star b clear in
    let rest = comment_found (b == 42) body more (shifted b body none)
    (λ s slash. none 0 (grind (arith, nat_tests)) slash) in
    let e : suc (2 + length body) ≡ 2 + suc (length body) = omega arith in
    rw (here, rest, e) refl
