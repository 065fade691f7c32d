use Rattle.digraph.proofs.Common.{graph_of}
use Rattle.digraph.proofs.Rows.{Turning}
use Rattle.digraph.proofs.search.turn.Given as goal

abbrev pub invariant-loop-successor : goal.invariant-loop-successor
invariant-loop-successor l = Turning l.nodes l.node (graph_of l.initial.rows) l.successor-index l.rows
