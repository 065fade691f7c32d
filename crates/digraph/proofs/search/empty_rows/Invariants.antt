use Rattle.digraph.proofs.Common.{ℕ, ◌≡◌, length, Edge, graph_of}
use Rattle.digraph.proofs.search.empty_rows.Given as goal

abbrev pub invariant-loop : goal.invariant-loop
invariant-loop l = record {
  size : length l.rows.items ≡ l.counter;
  empty : (a b : ℕ) → Edge (graph_of l.rows.items) a b → ⊥;
}
