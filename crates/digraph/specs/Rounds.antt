-- What a round over the nodes without a rank finds.
use Rattle.std.specs.Prelude.{◌≡◌, ◌⊎◌, ℕ, ◌<◌, ◌≤◌, List, length, Contains, slice_index_or, Bool}
use Rattle.digraph.specs.Edges.{Graph, Edge, successors}
use Rattle.digraph.specs.Marks.{IsMarked}

-- the first n of a row are marked
pub record IsPassed (marks : List Bool) (row : List ℕ) (n : ℕ) : Type 0 where
  pub inside : n ≤ length row
  pub prefix : (k : ℕ) → k < n → IsMarked marks (slice_index_or row k 0)

-- of each node's row, as many as the list says
pub record ArePassed (g : Graph) (marks : List Bool) (passed : List ℕ) : Type 0 where
  pub size : length passed ≡ length g
  pub each : (a : ℕ) → IsPassed marks (successors g a) (slice_index_or passed a 0)

-- the row ends at n, or the node there has no mark
abbrev pub Stops : List Bool → List ℕ → ℕ → Type 0
Stops marks row n = (n ≡ length row) ⊎ ((n < length row) × (IsMarked marks (slice_index_or row n 0) → ⊥))

abbrev pub AllMarked : Graph → List Bool → ℕ → Type 0
AllMarked g marks a = (b : ℕ) → Edge g a b → IsMarked marks b

-- a has an edge to one of the nodes
abbrev pub GoesInto : Graph → List ℕ → ℕ → Type 0
GoesInto g nodes a = (b : ℕ) × Contains nodes b × Edge g a b
