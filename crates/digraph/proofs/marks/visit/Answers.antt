use Rattle.digraph.proofs.Common.{[], sym, append-nil, arith, Contains-get_or}
use Rattle.digraph.proofs.Rows.{joined_none, joined_end, among_all, visited_push, visited_skip}
use Rattle.digraph.proofs.marks.visit.Goals as goal
use Rattle.digraph.proofs.marks.visit.Goals.{then-not-marks-node+in_ok-push, else-not-marks-node}

pub loop-node-init : goal.loop-node-init
loop-node-init c = record {
  room = λ k h. c.requires.room _ (Contains-get_or _ k 0 h);
  are = c.requires.marked;
  prefix = ([], sym (append-nil c.args.marked.now.items));
  added = λ x. joined_none (λ w. omega (arith, w.1));
}

pub loop-node-preserved : goal.loop-node-preserved
loop-node-preserved c = elim c.if-not-marks-node.branch [
  | then-not-marks-node+in_ok-push w ↦ rw (w.marks-is, w.marked-is, w.in_ok-push.ensures.items)
      (visited_push _ _ _ _ _ (omega arith) c.loop-node.invariant w.if-not-marks-node.true)
  | else-not-marks-node w ↦ rw (w.marks-is, w.marked-is)
      (visited_skip _ _ _ _ _ (omega arith) c.loop-node.invariant w.if-not-marks-node.false)
]

pub returns-clause-added : goal.returns-clause-added
returns-clause-added c x =
    joined_end (c.loop-node.invariant.added x) (among_all c.args.nodes.now c.loop-node.node-index x (omega arith))
