-- Ranks of nodes: 0 where there is no edge, else one more than the greatest rank that an edge goes to.
use Rattle.std.specs.Prelude.{◌≡◌, ◌⊎◌, ◌↔◌, ℕ, ◌+◌, ◌<◌, List, length, Contains, slice_index_or}
use Rattle.digraph.specs.Edges.{Graph, Edge}

abbrev pub rank_in : List ℕ → ℕ → ℕ
rank_in ranks a = slice_index_or ranks a 0

pub record IsRanked (g : Graph) (ranks : List ℕ) : Type 0 where
  pub size : length ranks ≡ length g
  -- greater than that of each successor
  pub above : (a b : ℕ) → Edge g a b → rank_in ranks b < rank_in ranks a
  -- and no greater than that asks for
  pub least : (a : ℕ) → a < length g → (rank_in ranks a ≡ 0)
      ⊎ ((b : ℕ) × Edge g a b × (rank_in ranks a ≡ rank_in ranks b + 1))

-- by rank, and by number where ranks are the same
abbrev pub IsBefore : List ℕ → ℕ → ℕ → Type 0
IsBefore ranks a b = (rank_in ranks a < rank_in ranks b) ⊎ ((rank_in ranks a ≡ rank_in ranks b) × (a < b))

-- every node, by rank and then by number
pub record IsRankOrder (ranks order : List ℕ) : Type 0 where
  pub size : length order ≡ length ranks
  pub rises : (k : ℕ) → k + 1 < length order
      → IsBefore ranks (slice_index_or order k 0) (slice_index_or order (k + 1) 0)
  pub whole : (a : ℕ) → Contains order a ↔ (a < length ranks)
