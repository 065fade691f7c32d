use Rattle.digraph.proofs.Common.{graph_of}
use Rattle.digraph.proofs.Joining.{Reaching}
use Rattle.digraph.proofs.reachable.reach_rows.Given as goal

abbrev pub invariant-loop-node : goal.invariant-loop-node
invariant-loop-node l = Reaching (graph_of l.graph) l.labels l.node l.matrix
