use Rattle.digraph.proofs.Common.{◌-◌, length, graph_of}
use Rattle.digraph.proofs.Closing.{Searching}
use Rattle.digraph.proofs.search.search.Given as goal

abbrev pub invariant-loop-next : goal.invariant-loop-next
invariant-loop-next l = Searching (graph_of l.graph) (length l.graph) l.start l.marks l.found.items l.next

abbrev pub decreases-loop-next : goal.decreases-loop-next
decreases-loop-next l = length l.graph - l.next
