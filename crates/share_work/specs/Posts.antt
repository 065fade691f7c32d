-- What is posted at words: pairs of a word and a number.
use Rattle.std.specs.Prelude.{ℕ, ◌==◌, List, [], ◌∷◌, min, if◌then◌else◌}

-- what a word holds before its first post
abbrev pub NONE : ℕ
NONE = 18446744073709551615

-- the least number posted at the word, or NONE
abbrev pub least_at : ℕ → List (ℕ × ℕ) → ℕ
least_at w [] = NONE
least_at w (p ∷ ps) = if p.0 == w then min p.1 (least_at w ps) else least_at w ps
