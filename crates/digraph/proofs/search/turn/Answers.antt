use Rattle.digraph.proofs.Common.{arith, Contains-get_or}
use Rattle.digraph.proofs.Rows.{joined_none, joined_end, among_all, turning_more}
use Rattle.digraph.proofs.search.turn.Goals as goal

pub loop-successor-init : goal.loop-successor-init
loop-successor-init c = record {
  room = λ k h. c.requires.room _ (Contains-get_or _ k 0 h);
  edges = λ b a. joined_none (λ w. omega (arith, w.1.1));
}

pub loop-successor-preserved : goal.loop-successor-preserved
loop-successor-preserved c = grind (arith, turning_more)

pub returns : goal.returns
returns c b a =
    let all = among_all c.args.nodes.now c.loop-successor.successor-index b (omega arith) in
    joined_end (c.loop-successor.invariant.edges b a) (λ (e, w). (e, all.0 w), λ (e, w). (e, all.1 w))
