use Rattle.digraph.proofs.Rows.{Visited}
use Rattle.digraph.proofs.marks.visit.Given as goal

abbrev pub invariant-loop-node : goal.invariant-loop-node
invariant-loop-node l = Visited l.fn.marked.items l.nodes l.node-index l.marks l.marked.items
