use Rattle.digraph.proofs.Common.{arith, get_or, Contains-get_or, get_or_default}
use Rattle.digraph.proofs.Joining.{joining_more}
use Rattle.digraph.proofs.reachable.join_rows.Goals as goal

pub join-requires-clause-other : goal.join-requires-clause-other
join-requires-clause-other c =
    let inside = Contains-get_or c.args.others.now c.loop-other.other-index 0 c.loop-other-test.true in
    let below = c.requires.others (get_or c.args.others.now c.loop-other.other-index 0) inside in
    omega arith

pub loop-other-preserved : goal.loop-other-preserved
loop-other-preserved c = joining_more _ _ _ _ _ _ c.loop-other-test.true c.requires.row c.requires.others
    c.loop-other.invariant c.join.ensures

pub returns : goal.returns
returns c = grind (arith, Contains-get_or, get_or_default)
