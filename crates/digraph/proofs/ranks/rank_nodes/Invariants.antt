use Rattle.digraph.proofs.Common.{◌-◌, length, graph_of}
use Rattle.digraph.proofs.Levels.{Levels}
use Rattle.digraph.proofs.ranks.rank_nodes.Given as goal

abbrev pub invariant-loop-alloc : goal.invariant-loop-alloc
invariant-loop-alloc l = Levels (graph_of l.graph) (record {
  marks = l.marks.items;
  ranks = l.ranks.items;
  order = l.order.items;
  ready = l.ready.items;
  passed = l.passed.items;
  round = l.rank;
})

abbrev pub decreases-loop-alloc : goal.decreases-loop-alloc
decreases-loop-alloc l = length l.graph - length l.order.items
