use Rattle.digraph.proofs.Joining.{reaching_more}
use Rattle.digraph.proofs.reachable.reach_rows.Goals as goal

pub push_joined-requires-clause-successors : goal.push_joined-requires-clause-successors
push_joined-requires-clause-successors c b w = c.requires.falls c.loop-node.node b (rw c.row.ensures at w)

pub loop-node-preserved : goal.loop-node-preserved
loop-node-preserved c = reaching_more _ _ _ _ _ c.requires.falls c.loop-node.invariant
    (rw c.row.ensures at c.in_ok-push_joined.ensures)
