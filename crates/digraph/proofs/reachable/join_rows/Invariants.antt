use Rattle.digraph.proofs.Joining.{Joining}
use Rattle.digraph.proofs.reachable.join_rows.Given as goal

abbrev pub invariant-loop-other : goal.invariant-loop-other
invariant-loop-other l = Joining l.fn.matrix l.row l.others l.other-index l.matrix
