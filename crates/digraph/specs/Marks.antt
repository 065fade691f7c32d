-- Marks at nodes, and lists of the nodes that are marked.
use Rattle.std.specs.Prelude.{◌≡◌, ◌++◌, ◌↔◌, ℕ, ◌<◌, List, length, Contains, slice_index_or, Bool, false, IsTrue}
use Rattle.std.specs.List.{IsDistinct}
use Rattle.std.specs.Prelude.{nat_eq}

-- a mark stands at c
abbrev pub IsMarked : List Bool → ℕ → Type 0
IsMarked marks c = (c < length marks) × IsTrue (slice_index_or marks c false)

abbrev pub NoneMarked : List Bool → Type 0
NoneMarked marks = (c : ℕ) → IsMarked marks c → ⊥

-- c stands among the first n
abbrev pub Among : List ℕ → ℕ → ℕ → Type 0
Among xs n c = (k : ℕ) × (k < n) × (slice_index_or xs k 0 ≡ c)

abbrev pub IsFrontOf : List ℕ → List ℕ → Type 0
IsFrontOf old new = (more : List ℕ) × (new ≡ old ++ more)

-- the marked nodes, each once
pub record AreMarked (marks : List Bool) (nodes : List ℕ) : Type 0 where
  pub same : (c : ℕ) → IsMarked marks c ↔ Contains nodes c
  pub once : IsDistinct nat_eq nodes
