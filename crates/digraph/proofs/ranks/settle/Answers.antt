use Rattle.digraph.proofs.Common.{arith, refl, Contains-get_or}
use Rattle.digraph.proofs.Rows.{joined_end, among_all}
use Rattle.digraph.proofs.ranks.settle.Goals as goal

pub loop-node-init : goal.loop-node-init
loop-node-init c = record {
  room = λ k h. c.requires.room _ (Contains-get_or _ k 0 h);
  marked = λ x. grind arith;
  ranked = λ x w. grind arith;
  others = λ x out. refl;
}

pub returns-clause-marked : goal.returns-clause-marked
returns-clause-marked c x =
    joined_end (c.loop-node.invariant.marked x) (among_all c.args.nodes.now c.loop-node.node-index x (omega arith))

pub returns-clause-ranked : goal.returns-clause-ranked
returns-clause-ranked c x w =
    c.loop-node.invariant.ranked x ((among_all c.args.nodes.now c.loop-node.node-index x (omega arith)).0 w)
