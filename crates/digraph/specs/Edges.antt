-- Graphs of numbered nodes, as the list of each node's successors.
use Rattle.std.specs.Prelude.{ℕ, ◌<◌, List, [], map, Contains, slice_index_or, Vec}
use Rattle.std.specs.declared.alloc.Global.{Global}

abbrev pub Graph : Type 0
Graph = List (List ℕ)

abbrev pub graph_of : List (Vec ℕ Global) → Graph
graph_of rows = map (λ (row : Vec ℕ Global). row.items) rows

abbrev pub successors : Graph → ℕ → List ℕ
successors g a = slice_index_or g a []

-- an edge from a to b
abbrev pub Edge : Graph → ℕ → ℕ → Type 0
Edge g a b = Contains (successors g a) b

-- each edge goes to a node
abbrev pub IsWithin : Graph → ℕ → Type 0
IsWithin g n = (a b : ℕ) → Edge g a b → b < n

-- each edge goes to a smaller node
abbrev pub IsFalling : Graph → Type 0
IsFalling g = (a b : ℕ) → Edge g a b → b < a
