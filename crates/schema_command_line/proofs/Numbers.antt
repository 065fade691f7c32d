-- Numbers that are read of an argument.
use Rattle.std.proofs.Common.{◌≡◌, ℕ, ◌<◌, ◌^◌, List, Option, Some, None, Result, Ok, Err, IfErr, IfOk, ap, refl, subst, sym}
use Rattle.std.proofs.lemmas.Fmt.{parse-decimal}
use Rattle.std.specs.Fmt.{decimal}
use Rattle.std.specs.Str.Parse.{ParsesUnsigned}
use Rattle.clap.specs.Matches.{ReadsOne}

value_is : {E : Type 0} (r : Result ℕ E) (n : ℕ) → r ≡ Ok n → IfOk r (λ x. x ≡ n)
value_is {E} r n same = let P : Result ℕ E → Type 0 = λ r. IfOk r (λ x. x ≡ n) in subst P (sym same) refl

no_error : {E : Type 0} (r : Result ℕ E) (n : ℕ) → r ≡ Ok n → IfErr r (λ x. ⊥)
no_error {E} r n same = let P : Result ℕ E → Type 0 = λ r. IfErr r (λ x. ⊥) in subst P (sym same) tt

-- the decimal digits of a number that fits are read as that number, whatever else `from_str` promises
pub number_read : {E : Type 0} (more yet_more : List ℕ → Result ℕ E → Type 0) (k n : ℕ) (o : Option ℕ)
    → n < 2 ^ k → n < 2 ^ 64
    → ReadsOne (λ bs r. ParsesUnsigned k 10 bs r × more bs r × yet_more bs r) (decimal n) o → o ≡ Some n
number_read {E} more yet_more k n (Some v) small fits read =
    let r : Result ℕ E = Ok v in ap Some (value_is r n (parse-decimal k n (decimal n) r small fits refl read.0))
number_read {E} more yet_more k n None small fits read =
    let r : Result ℕ E = Err read.0 in absurd (no_error r n (parse-decimal k n (decimal n) r small fits refl read.1.0))
