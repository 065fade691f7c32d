-- Which files each reply of a stream carries, one request after another.
use Rattle.std.specs.Prelude.{ℕ, Bool, false, not, ◌==◌, ◌||◌, Option, Some, None, List, [], ◌∷◌, ◌++◌, filter}
use Rattle.std.specs.Set.{is_member}
use Rattle.first_reach.specs.declared.mode.Mode.{Mode}
use Rattle.first_reach.specs.declared.mode.Mode.TheVariants.{Once, Repeat}

-- the files that a root reaches; none without a root
abbrev pub reached : (ℕ → List ℕ) → Option ℕ → List ℕ
reached reach None = []
reached reach (Some r) = reach r

-- the root, and then the other files that it reaches
abbrev pub root_first : (ℕ → List ℕ) → Option ℕ → List ℕ
root_first reach None = []
root_first reach (Some r) = r ∷ filter (λ g. not (g == r)) (reach r)

-- the file goes again, since it is the root
abbrev pub repeats : Mode → Option ℕ → ℕ → Bool
repeats Once root g = false
repeats Repeat None g = false
repeats Repeat (Some r) g = g == r

-- each reply carries what its root reaches and was not sent yet, or repeats; then all that the root reaches is sent
abbrev pub carried_from : Mode → (ℕ → List ℕ) → List ℕ → List (Option ℕ) → List (List ℕ)
carried_from mode reach sent [] = []
carried_from mode reach sent (root ∷ roots) =
    filter (λ g. repeats mode root g || not (is_member ◌==◌ sent g)) (root_first reach root)
    ∷ carried_from mode reach (sent ++ reached reach root) roots

abbrev pub carried : Mode → (ℕ → List ℕ) → List (Option ℕ) → List (List ℕ)
carried mode reach roots = carried_from mode reach [] roots
