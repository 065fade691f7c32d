-- What stands behind the last such character of a text.
use Rattle.std.proofs.Common.{◌≡◌, ◌≢◌, ◌==◌, ◌∙◌, ℕ, ◌+◌, ◌-◌, ◌<◌, ◌≤◌, List, Some, None, length, drop, get_or, sym, ap, arith, get_or-drop, length-drop}
use Rattle.std.proofs.lemmas.Bool.Decides.{nat_tests}
use Rattle.std.proofs.lemmas.List.Sums.{suffix_len_is}
use Rattle.std.proofs.lemmas.Str.{len_utf8_ascii}
use Rattle.std.proofs.lemmas.Str.Pattern.{NoCharPasses-char}
use Rattle.std.specs.List.{after_last, suffix_len}
use Rattle.std.specs.Prelude.{true, false, not}
use Rattle.std.specs.Str.Pattern.{RFindsChar}

other_fails : (a b : ℕ) → a ≢ b → not (a == b) ≡ true
other_fails a b other = grind (arith, nat_tests)

same_passes : (a b : ℕ) → a ≡ b → not (a == b) ≡ false
same_passes a b same = grind (arith, nat_tests)

-- what follows place n, where c stands before it and nowhere behind it
behind_place : (c : ℕ) (bs : List ℕ) (n : ℕ) → n ≤ length bs
    → ((k : ℕ) → n ≤ k → k < length bs → get_or bs k 0 ≢ c)
    → (0 < n → get_or bs (n - 1) 0 ≡ c) → drop n bs ≡ after_last (λ b. b == c) bs
behind_place c bs n fits none here =
    let fails : suffix_len (λ b. not (b == c)) bs ≡ length bs - n =
    suffix_len_is (λ b. not (b == c)) bs n 0 fits (λ k low high. other_fails _ c (none k low high))
    (λ low. same_passes _ c (here low)) in
    let place : length bs - suffix_len (λ b. not (b == c)) bs ≡ n = omega (arith, fails) in
    ap (λ k. drop k bs) (sym place)

pub behind_none : (c : ℕ) (bs : List ℕ) → c < 128 → RFindsChar c bs None → bs ≡ after_last (λ b. b == c) bs
behind_none c bs ascii none =
    behind_place c bs 0 (omega arith) (λ k low high. NoCharPasses-char c bs k none ascii high)
    (λ low. absurd (omega arith))

pub behind_found : (c : ℕ) (bs : List ℕ) (i j : ℕ) → c < 128 → RFindsChar c bs (Some (i, j)) → j ≤ length bs
    → drop j bs ≡ after_last (λ b. b == c) bs
behind_found c bs i j ascii found fits =
    let next : j ≡ i + 1 = omega (arith, found.1.ends, len_utf8_ascii c ascii) in
    behind_place c bs j fits (λ k low high.
    let none : get_or (drop j bs) (k - j) 0 ≢ c =
    NoCharPasses-char c (drop j bs) (k - j) found.0 ascii (omega (arith, length-drop j bs)) in
    let same : j + (k - j) ≡ k = omega arith in
    λ at. none (get_or-drop j bs (k - j) 0 ∙ ap (λ m. get_or bs m 0) same ∙ at))
    (λ low. let before : j - 1 ≡ i = omega (arith, next) in ap (λ m. get_or bs m 0) before ∙ found.1.byte ascii)
