-- The first root of a list that reaches a file.
use Rattle.std.specs.Prelude.{◌≡◌, ℕ, ◌+◌, Option, Some, List, [], ◌∷◌, slice_get, if◌then◌else◌, Contains, ◌==◌}
use Rattle.std.specs.Set.{is_member}
use Rattle.share_work.specs.Posts.{NONE}
use Rattle.first_reach.specs.Carried.{reached}

-- the position of the first root that reaches the file, where the first of these has position i; or NONE
abbrev pub first_from : (ℕ → List ℕ) → ℕ → List (Option ℕ) → ℕ → ℕ
first_from reach i [] g = NONE
first_from reach i (root ∷ roots) g =
    if is_member ◌==◌ (reached reach root) g then i else first_from reach (i + 1) roots g

abbrev pub first_reach : (ℕ → List ℕ) → List (Option ℕ) → ℕ → ℕ
first_reach reach roots g = first_from reach 0 roots g

-- the root at position n reaches g
abbrev pub RootReaches : (ℕ → List ℕ) → List (Option ℕ) → ℕ → ℕ → Type 0
RootReaches reach roots g n = (root : Option ℕ) × (slice_get roots n ≡ Some root) × Contains (reached reach root) g
