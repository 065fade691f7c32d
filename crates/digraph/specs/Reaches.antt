-- What the nodes of a graph lead to, as lists.
use Rattle.std.specs.Prelude.{◌≡◌, ◌⊎◌, ◌↔◌, ℕ, ◌<◌, List, [], Contains, slice_index_or}
use Rattle.std.specs.List.Sorted.{IsStrictlyIncreasing}
use Rattle.digraph.specs.Edges.{Graph, Edge}
use Rattle.digraph.specs.Leads.{Leads}

-- no node that is left is come back to
abbrev pub HasNoCycle : Graph → Type 0
HasNoCycle g = (a b : ℕ) → Edge g a b → Leads (Edge g) a b → ⊥

-- what a leads to, in rising order
pub record IsReach (g : Graph) (a : ℕ) (xs : List ℕ) : Type 0 where
  pub rises : IsStrictlyIncreasing xs
  pub members : (c : ℕ) → Contains xs c ↔ Leads (Edge g) c a

-- each of the first n lists is what its node leads to
abbrev pub AreReaches : Graph → List (List ℕ) → ℕ → Type 0
AreReaches g lists n = (a : ℕ) → a < n → IsReach g a (slice_index_or lists a [])

-- c stands in the list of a node of the row
abbrev pub InLists : List (List ℕ) → List ℕ → ℕ → Type 0
InLists lists row c = (b : ℕ) × Contains row b × Contains (slice_index_or lists b []) c

-- a itself, and what stands in the lists of the nodes of a row, in rising order
pub record IsUnion (lists : List (List ℕ)) (row : List ℕ) (a : ℕ) (xs : List ℕ) : Type 0 where
  pub rises : IsStrictlyIncreasing xs
  pub members : (c : ℕ) → Contains xs c ↔ (InLists lists row c ⊎ (a ≡ c))

-- each of the first n lists has its own node, and with a node all that stands in that one's list
pub record AreClosed (lists : List (List ℕ)) (n : ℕ) : Type 0 where
  pub own : (a : ℕ) → a < n → Contains (slice_index_or lists a []) a
  pub within : (a b : ℕ) → a < n → Contains (slice_index_or lists a []) b → b < n
  pub closed : (a b c : ℕ) → a < n → Contains (slice_index_or lists a []) b → Contains (slice_index_or lists b []) c
      → Contains (slice_index_or lists a []) c
