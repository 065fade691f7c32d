use Rattle.digraph.proofs.Common.{◌≡◌, length, graph_of, AreReaches, NoneMarked}
use Rattle.digraph.proofs.closures.reach_lists.Given as goal

abbrev pub invariant-loop-own : goal.invariant-loop-own
invariant-loop-own l = record {
  room : length l.marks.items ≡ length l.graph;
  none : NoneMarked l.marks.items;
  size : length l.lists ≡ l.own;
  reaches : AreReaches (graph_of l.graph) l.lists l.own;
}
