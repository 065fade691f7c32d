use Rattle.digraph.proofs.Common.{get_or, arith, Contains-get_or}
use Rattle.digraph.proofs.marks.clear.Goals as goal

pub loop-node-init : goal.loop-node-init
loop-node-init c = record {
  room = λ k h. ((c.requires.same (get_or c.args.nodes.now k 0)).1 (Contains-get_or c.args.nodes.now k 0 h)).0;
  left = λ x m. ((c.requires.same x).0 m, λ w. omega (arith, w.1));
}
