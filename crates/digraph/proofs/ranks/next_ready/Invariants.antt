use Rattle.digraph.proofs.Common.{ℕ, Contains, ◌↔◌, Edge, graph_of, Among, ArePassed, AllMarked}
use Rattle.digraph.proofs.ranks.next_ready.Given as goal

abbrev pub invariant-loop-node : goal.invariant-loop-node
invariant-loop-node l = record {
  are : ArePassed (graph_of l.graph) l.marks l.passed;
  found : (a : ℕ) → Contains l.ready.items a
      ↔ (((b : ℕ) × Among l.settled l.node-index b × Edge (graph_of l.graph) a b)
      × AllMarked (graph_of l.graph) l.marks a);
}
