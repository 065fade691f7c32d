use Rattle.std.proofs.Common.{◌≡◌, map, take, get_or}
use Rattle.digraph.proofs.renumber.positions_in.Given as goal

abbrev pub invariant-loop-node : goal.invariant-loop-node
invariant-loop-node l = (l.row.items ≡ map (λ b. get_or l.positions b 0) (take l.node-index l.nodes))
