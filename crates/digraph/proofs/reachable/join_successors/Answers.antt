use Rattle.std.proofs.Common.{◌≡◌, ◌+◌, ◌-◌, arith}
use Rattle.digraph.proofs.Joining.{succeeding_more}
use Rattle.digraph.proofs.reachable.join_successors.Goals as goal

pub join_rows-requires-clause-others : goal.join_rows-requires-clause-others
join_rows-requires-clause-others c b w = c.requires.falls (c.loop-node.node - 1) b (rw c.row.ensures at w)

pub loop-node-preserved : goal.loop-node-preserved
loop-node-preserved c =
    let back : c.loop-node.node ≡ c.loop-node.node - 1 + 1 = omega arith in
    succeeding_more _ _ _ _ _ c.requires.falls (omega arith) (rw back at c.loop-node.invariant)
    (rw c.row.ensures at c.join_rows.ensures)
