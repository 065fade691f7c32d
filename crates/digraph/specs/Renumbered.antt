-- Nodes by their positions in an order.
use Rattle.std.specs.Prelude.{◌≡◌, ◌↔◌, ℕ, ◌<◌, List, length, slice_index_or, Contains}
use Rattle.digraph.specs.Edges.{Graph, Edge}

abbrev pub node_at : List ℕ → ℕ → ℕ
node_at order k = slice_index_or order k 0

-- the position of each node in an order
pub record ArePositions (order positions : List ℕ) : Type 0 where
  pub size : length positions ≡ length order
  pub position : (k : ℕ) → k < length order → (node_at order k < length order)
      × (slice_index_or positions (node_at order k) 0 ≡ k)
  pub node : (a : ℕ) → a < length order → (slice_index_or positions a 0 < length order)
      × (node_at order (slice_index_or positions a 0) ≡ a)

-- one of the nodes stands at position j
abbrev pub HasPosition : List ℕ → List ℕ → ℕ → Type 0
HasPosition positions nodes j = (b : ℕ) × Contains nodes b × (slice_index_or positions b 0 ≡ j)

-- the same edges, between positions
pub record IsRenumbered (g : Graph) (order : List ℕ) (rows : Graph) : Type 0 where
  pub size : length rows ≡ length order
  pub edges : (k j : ℕ) → k < length order → j < length order
      → Edge rows k j ↔ Edge g (node_at order k) (node_at order j)
  pub within : (k j : ℕ) → Edge rows k j → j < length order
