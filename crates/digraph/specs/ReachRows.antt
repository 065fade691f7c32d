-- Rows of bits of nodes that have labels: in a row the labels of nodes are set.
use Rattle.std.specs.Prelude.{◌≡◌, ◌⊎◌, ◌↔◌, ℕ, ◌+◌, ◌<◌, ◌≤◌, List, length, Contains}
use Rattle.bit_matrix.specs.Bits.{Bits, has}
use Rattle.bit_matrix.specs.Changes.{Has, IsAsLarge, columns_of}
use Rattle.digraph.specs.Edges.{Graph, Edge}
use Rattle.digraph.specs.Leads.{Leads}
use Rattle.digraph.specs.Renumbered.{node_at}

-- a node that a leads to has this label
abbrev pub LeadsToLabel : Graph → List ℕ → ℕ → ℕ → Type 0
LeadsToLabel g labels a k = (c : ℕ) × Leads (Edge g) c a × (node_at labels c ≡ k)

-- a row for each node: the labels of what it leads to
pub record AreReachRows (g : Graph) (labels : List ℕ) (bits : Bits) : Type 0 where
  pub rows : bits.rows ≡ length labels
  pub columns : length labels ≤ columns_of bits
  pub members : (a k : ℕ) → a < bits.rows → k < columns_of bits → Has bits a k ↔ LeadsToLabel g labels a k

-- a bit that is set in the row of one of these nodes
abbrev pub InRows : Bits → List ℕ → ℕ → Type 0
InRows bits nodes k = (b : ℕ) × Contains nodes b × Has bits b k

-- each row with what was set in the rows of its node's successors
pub record HaveSuccessorsJoined (g : Graph) (old new : Bits) : Type 0 where
  pub large : IsAsLarge old new
  pub members : (a k : ℕ) → a < old.rows → k < columns_of old
      → Has new a k ↔ (Has old a k ⊎ ((b : ℕ) × Edge g a b × Has old b k))

-- ---- words of private contracts

-- one row with what is set in others
pub record HasRowsJoined (old : Bits) (row : ℕ) (others : List ℕ) (new : Bits) : Type 0 where
  pub large : IsAsLarge old new
  pub kept : (a k : ℕ) → a < old.rows → k < columns_of old → (a ≡ row → ⊥) → has new a k ≡ has old a k
  pub bits : (k : ℕ) → k < columns_of old → Has new row k ↔ (Has old row k ⊎ InRows old others k)

-- one more row: a label, and what is set in other rows
pub record HasRowPushed (old : Bits) (label : ℕ) (others : List ℕ) (new : Bits) : Type 0 where
  pub rows : new.rows ≡ old.rows + 1
  pub width : new.width ≡ old.width
  pub kept : (a k : ℕ) → a < old.rows → k < columns_of old → has new a k ≡ has old a k
  pub bits : (k : ℕ) → k < columns_of old → Has new old.rows k ↔ ((label ≡ k) ⊎ InRows old others k)
