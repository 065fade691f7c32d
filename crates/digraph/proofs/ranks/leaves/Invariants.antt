use Rattle.digraph.proofs.Common.{ℕ, [], ◌≡◌, ◌<◌, Contains, ◌↔◌, IsStrictlyIncreasing, graph_of, successors}
use Rattle.digraph.proofs.ranks.leaves.Given as goal

abbrev pub invariant-loop-node : goal.invariant-loop-node
invariant-loop-node l = record {
  rises : IsStrictlyIncreasing l.leaves.items;
  members : (a : ℕ) → Contains l.leaves.items a ↔ ((a < l.node) × (successors (graph_of l.graph) a ≡ []));
}
