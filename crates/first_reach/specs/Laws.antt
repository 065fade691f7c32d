-- Laws over the definitions alone.
use Rattle.std.specs.Prelude.{◌≡◌, ℕ, ◌≤◌, ◌⊎◌, ◌↔◌, Option, Some, List, All, length, slice_get, Contains}
use Rattle.std.specs.Option.{ForSome}
use Rattle.share_work.specs.Posts.{NONE, least_at}
use Rattle.first_reach.specs.declared.mode.Mode.TheVariants.{Once, Repeat}
use Rattle.first_reach.specs.Carried.{carried}
use Rattle.first_reach.specs.First.{first_reach, RootReaches}

-- each root reaches itself
abbrev pub ReachThemselves : (ℕ → List ℕ) → List (Option ℕ) → Type 0
ReachThemselves reach roots = All (λ root. ForSome root (λ r. Contains (reach r) r)) roots

-- where no root is repeated, a reply carries a file exactly where its root is the first that reaches it
abbrev pub CarriesFirsts : Type 0
CarriesFirsts = (reach : ℕ → List ℕ) (roots : List (Option ℕ)) → length roots ≤ NONE → ReachThemselves reach roots
    → (i g : ℕ) (files : List ℕ) → slice_get (carried Once reach roots) i ≡ Some files
    → Contains files g ↔ (first_reach reach roots g ≡ i)

-- where roots are repeated, a reply carries a file exactly where it is the root, or its root is the first that reaches
-- it
abbrev pub RepeatCarriesRoots : Type 0
RepeatCarriesRoots = (reach : ℕ → List ℕ) (roots : List (Option ℕ)) → length roots ≤ NONE → ReachThemselves reach roots
    → (i g : ℕ) (root : Option ℕ) (files : List ℕ) → slice_get roots i ≡ Some root
    → slice_get (carried Repeat reach roots) i ≡ Some files
    → Contains files g ↔ ((root ≡ Some g) ⊎ (first_reach reach roots g ≡ i))

-- where each position is posted at exactly the files that its root reaches, the least number at a file is the position
-- of the first root that reaches it
abbrev pub LeastIsFirst : Type 0
LeastIsFirst = (reach : ℕ → List ℕ) (roots : List (Option ℕ)) → length roots ≤ NONE
    → (pairs : List (ℕ × ℕ)) → ((g n : ℕ) → Contains pairs (g, n) ↔ RootReaches reach roots g n)
    → (g : ℕ) → least_at g pairs ≡ first_reach reach roots g
