use Rattle.digraph.proofs.Common.{graph_of}
use Rattle.digraph.proofs.Joining.{Succeeding}
use Rattle.digraph.proofs.reachable.join_successors.Given as goal

abbrev pub invariant-loop-node : goal.invariant-loop-node
invariant-loop-node l = Succeeding (graph_of l.graph) l.fn.matrix l.node l.matrix
