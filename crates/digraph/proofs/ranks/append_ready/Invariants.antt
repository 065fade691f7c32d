use Rattle.digraph.proofs.Common.{graph_of}
use Rattle.digraph.proofs.Levels.{Appending}
use Rattle.digraph.proofs.ranks.append_ready.Given as goal

abbrev pub invariant-loop-node : goal.invariant-loop-node
invariant-loop-node l = Appending (graph_of l.graph) l.marks l.nodes l.fn.ready.items l.node-index
    l.passed l.ready.items
