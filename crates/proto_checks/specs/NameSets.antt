-- Sets of names.
use Rattle.std.specs.Prelude.{◌≡◌, ℕ, true, ◌↔◌, List, Contains}
use Rattle.std.specs.BTreeSet.{BTreeSet, contains_by}
use Rattle.std.specs.Borrow.{Bor}
use Rattle.std.specs.Cmp.Lexicographic.{slice_cmp}
use Rattle.std.specs.Ordering.{nat_cmp}

-- the set holds these names and no other
abbrev pub HoldsJust : List (List ℕ) → BTreeSet (Bor (List ℕ)) → Type 0
HoldsJust names set = (name : List ℕ) → (contains_by (λ k. slice_cmp nat_cmp name k.now) set ≡ true)
    ↔ Contains names name
