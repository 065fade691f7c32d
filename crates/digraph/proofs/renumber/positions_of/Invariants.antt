use Rattle.digraph.proofs.Renumbering.{Placed}
use Rattle.digraph.proofs.renumber.positions_of.Given as goal

abbrev pub invariant-loop-position : goal.invariant-loop-position
invariant-loop-position l = Placed l.order l.position l.positions.items
