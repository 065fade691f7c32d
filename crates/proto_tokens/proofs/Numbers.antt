-- Numbers that digits write.
use Rattle.proto_tokens.proofs.Common.{common_steps, ◌≡◌, ℕ, ◌+◌, ◌*◌, ◌<◌, ◌≤◌, ◌^◌, true, false, Option, None, Some, Result, List, [], ◌∷◌, length, get_or, take, drop, refl, inr, arith, fold, take-append-drop, mul-le-mul_left, ◌↔◌, MatchOption, MatchResult, ok_or, list_all, digit_value, fold_more, fold-append, list_all-from_AllPass, AllPass-from_list_all, false≢true, is_digit, Kind, digits_value, Writes, IsNumeral, IsNumeralFault}
use Rattle.proto_base.specs.declared.kind.Kind.TheVariants.{NumberTooBig}

abbrev pub step : ℕ → ℕ → ℕ → ℕ
step base n d = n * base + digit_value d

-- more digits write no less
step_grows : (base : ℕ) (n : ℕ) (ds : List ℕ) → 0 < base → n ≤ fold (step base) n ds
step_grows base n [] pos = omega arith
step_grows base n (d ∷ ds) pos =
    grind (arith, step_grows base (n * base + digit_value d) ds pos, mul-le-mul_left n pos)

pub digits_value_prefix : (base : ℕ) (ds : List ℕ) (i : ℕ) → 0 < base
    → digits_value base (take i ds) ≤ digits_value base ds
digits_value_prefix base ds i pos =
    let grows = step_grows base (fold (step base) 0 (take i ds)) (drop i ds) pos in
    grind (arith, fold-append (step base) 0 (take i ds) (drop i ds), take-append-drop i ds)

-- one step past the greatest number, so the whole is past it too
pub too_big_from_step : (base : ℕ) (ds : List ℕ) (i value factor : ℕ) → 0 < base → i < length ds
    → value ≡ digits_value base (take i ds) → factor ≡ base
    → 2 ^ 64 ≤ value * factor + digit_value (get_or ds i 0) → 2 ^ 64 ≤ digits_value base ds
too_big_from_step base ds i value factor pos lt value_is factor_is big =
    grind (arith, common_steps, fold_more (step base) 0 ds i 0 lt, digits_value_prefix)

pub not_digits : (base : ℕ) (ds : List ℕ) (n : ℕ) → list_all (λ d. is_digit d base) ds ≡ false → Writes base ds n → ⊥
not_digits base ds n off w = grind (arith, false≢true, list_all-from_AllPass)

pub are_written : (base : ℕ) (ds : List ℕ) (n : ℕ) → list_all (λ d. is_digit d base) ds ≡ true
    → n ≡ digits_value base ds → Writes base ds n
are_written base ds n on value = grind (arith, AllPass-from_list_all)

pub has_value : (bs : List ℕ) (base : ℕ) (ds : List ℕ) (value : Option ℕ) (result : Result ℕ Kind)
    → list_all (λ d. is_digit d base) ds ≡ true
    → ((n : ℕ) → IsNumeral bs n ↔ Writes base ds n)
    → MatchOption value (2 ^ 64 ≤ digits_value base ds) (λ n. n ≡ digits_value base ds)
    → result ≡ ok_or value NumberTooBig
    → MatchResult result (IsNumeral bs) (IsNumeralFault bs)
has_value bs base ds None result on parts big e = rw e (inr (refl, _, (parts _).1 (are_written base ds _ on refl), big))
has_value bs base ds (Some n) result on parts same e = rw e ((parts n).1 (are_written base ds n on same))
