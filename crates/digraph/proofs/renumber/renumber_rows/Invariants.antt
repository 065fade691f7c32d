use Rattle.digraph.proofs.Common.{ℕ, ◌≡◌, ◌<◌, length, ◌↔◌, Edge, graph_of, successors, HasPosition, node_at}
use Rattle.digraph.proofs.renumber.renumber_rows.Given as goal

abbrev pub invariant-loop-node : goal.invariant-loop-node
invariant-loop-node l = record {
  size : length (graph_of l.rows.items) ≡ l.node-index;
  rowed : (k j : ℕ) → Edge (graph_of l.rows.items) k j
      ↔ ((k < l.node-index) × HasPosition l.positions (successors (graph_of l.graph) (node_at l.order k)) j);
}
