-- One reply by itself, from the position of the first root that reaches each file.
use Rattle.std.specs.Prelude.{◌≡◌, ℕ, ◌==◌, ◌||◌, ◌&&◌, not, Option, List, filter, slice_index, Contains}
use Rattle.first_reach.specs.declared.mode.Mode.{Mode}
use Rattle.first_reach.specs.Carried.{root_first, repeats}

-- what the reply at position i carries: of what its root reaches, all whose first position is i, and what it repeats
abbrev pub reply_at : Mode → (ℕ → List ℕ) → List ℕ → ℕ → Option ℕ → List ℕ
reply_at mode reach first i root =
    filter (λ g. repeats mode root g || (slice_index first g == i)) (root_first reach root)

-- of these files those but the root of which i is the first position
abbrev pub others_at : List ℕ → ℕ → ℕ → List ℕ → List ℕ
others_at first i r files = filter (λ g. not (g == r) && (slice_index first g == i)) files

-- where i is the first position of a file that the root reaches, it is that of the root
abbrev pub RootIsFirstToo : (ℕ → List ℕ) → List ℕ → ℕ → ℕ → Type 0
RootIsFirstToo reach first i r = (g : ℕ) → Contains (reach r) g → slice_index first g ≡ i → slice_index first r ≡ i
