use Rattle.digraph.proofs.Common.{ℕ, ◌≡◌, ◌<◌, length, ◌↔◌, Edge, graph_of}
use Rattle.digraph.proofs.search.predecessors.Given as goal

abbrev pub invariant-loop-node : goal.invariant-loop-node
invariant-loop-node l = record {
  size : length l.rows.items ≡ length (graph_of l.graph);
  edges : (b a : ℕ) → Edge (graph_of l.rows.items) b a ↔ ((a < l.node) × Edge (graph_of l.graph) a b);
}
