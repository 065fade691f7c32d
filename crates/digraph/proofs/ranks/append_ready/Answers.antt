use Rattle.digraph.proofs.Common.{inl, inr, ap, length, get_or, arith, successors, graph_of, Contains-get_or}
use Rattle.digraph.proofs.Rows.{joined_none, joined_end, among_all, length_graph}
use Rattle.digraph.proofs.Levels.{appending_more, stopped}
use Rattle.digraph.proofs.ranks.append_ready.Goals as goal
use Rattle.digraph.proofs.ranks.append_ready.Goals.{then-count-successors+in_ok-push, else-count-successors}

pub loop-node-init : goal.loop-node-init
loop-node-init c = record {
  room = λ k h. omega (arith, c.requires.nodes _ (Contains-get_or _ k 0 h), length_graph c.args.graph.now);
  are = c.requires.passed;
  added = λ a. joined_none (λ w. omega (arith, w.0.1));
}

pub pass-count-requires-clause-room : goal.pass-count-requires-clause-room
pass-count-requires-clause-room c b w = c.requires.within _ b (rw c.row-successors.ensures at w)

pub loop-node-preserved : goal.loop-node-preserved
loop-node-preserved c =
    let g = graph_of c.args.graph.now in
    let node = get_or c.args.nodes.now c.loop-node.node-index 0 in
    let passed = rw c.row-successors.ensures at c.pass-count.ensures.passed in
    let stops = rw c.row-successors.ensures at c.pass-count.ensures.stops in
    let size = ap length c.row-successors.ensures in
    appending_more g _ _ _ _ _ _ _ _ (omega arith) passed (elim c.if-count-successors.branch [
      | then-count-successors+in_ok-push w ↦ inl (
        (λ b edge. (
            let at = (among_all (successors g node) c.pass-count.result b (omega arith)).0 edge in
            rw at.2 at (passed.prefix at.0 at.1))),
        cc w.in_ok-push.ensures.items,
      )
      | else-count-successors w ↦ inr (stopped g _ node _ (λ e. omega arith) stops, cc)
    ]) c.loop-node.invariant

pub returns-clause-ready : goal.returns-clause-ready
returns-clause-ready c a =
    let same = among_all c.args.nodes.now c.loop-node.node-index a (omega arith) in
    joined_end (c.loop-node.invariant.added a) (λ w. (same.0 w.0, w.1), λ w. (same.1 w.0, w.1))
