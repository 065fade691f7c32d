use Rattle.digraph.proofs.Common.{arith, Contains-get_or}
use Rattle.digraph.proofs.renumber.positions_in.Goals as goal

pub offset_bounds-positions-node : goal.offset_bounds-positions-node
offset_bounds-positions-node c = let below =
    c.requires _ (Contains-get_or c.args.nodes.now c.loop-node.node-index 0 (omega arith)) in omega arith

pub bounds-positions-node : goal.bounds-positions-node
bounds-positions-node c = c.requires _ (Contains-get_or c.args.nodes.now c.loop-node.node-index 0 (omega arith))
