-- What two files reach, and its laws.
use Rattle.std.specs.Prelude.{ℕ, zero, suc, ◌<◌, List, [], ◌∷◌, length, Contains}
use Rattle.std.proofs.Common.{refl, sym, subst, arith}

-- file 0 reaches files 0 and 1, and file 1 itself
abbrev pub two : ℕ → List ℕ
two zero = 0 ∷ 1 ∷ []
two (suc zero) = 1 ∷ []
two (suc (suc n)) = []

pub two_within : (r g : ℕ) → Contains (two r) g → g < 2
two_within zero g (zero, inside, is) = omega (arith, is)
two_within zero g (suc zero, inside, is) = omega (arith, is)
two_within zero g (suc (suc k), inside, is) = absurd (omega (arith, inside))
two_within (suc zero) g (zero, inside, is) = omega (arith, is)
two_within (suc zero) g (suc k, inside, is) = absurd (omega (arith, inside))
two_within (suc (suc n)) g (k, inside, is) = absurd (omega (arith, inside))

pub two_short : (r : ℕ) → length (two r) < 18446744073709551615
two_short zero = omega arith
two_short (suc zero) = omega arith
two_short (suc (suc n)) = omega arith

first_reaches : (g : ℕ) → g < 2 → Contains (two 0) g
first_reaches zero h = (0, omega arith, refl)
first_reaches (suc zero) h = (1, omega arith, refl)
first_reaches (suc (suc g)) h = absurd (omega (arith, h))

pub two_reflexive : (r : ℕ) → r < 2 → Contains (two r) r
two_reflexive zero h = first_reaches 0 h
two_reflexive (suc zero) h = (0, omega arith, refl)
two_reflexive (suc (suc n)) h = absurd (omega (arith, h))

pub two_transitive : (r g h : ℕ) → Contains (two r) g → Contains (two g) h → Contains (two r) h
two_transitive zero g h a b = first_reaches h (two_within g h b)
two_transitive (suc zero) g h (zero, inside, is) b = subst (λ (x : ℕ). Contains (two x) h) (sym is) b
two_transitive (suc zero) g h (suc k, inside, is) b = absurd (omega (arith, inside))
two_transitive (suc (suc n)) g h (k, inside, is) b = absurd (omega (arith, inside))
