use Rattle.digraph.proofs.Common.{[], get_or, arith, Contains, Contains-get_or}
use Rattle.digraph.proofs.Rows.{joined_there, joined_more, joined_two, among_some, among_some_all, no_items}
use Rattle.digraph.proofs.closures.gather.Goals as goal
use Rattle.digraph.proofs.closures.gather.Goals.{then-not-marks-node+in_ok-visit, else-not-marks-node}

pub loop-node-init : goal.loop-node-init
loop-node-init c = record {
  room = c.requires.room;
  inside = λ k h. c.requires.nodes _ (Contains-get_or _ k 0 h);
  are = c.requires.marked;
  gathered = λ x. (λ w. absurd (no_items x (rw c.requires.empty at w)), λ w. absurd (omega (arith, w.1.1)));
}

pub visit-requires-clause-room : goal.visit-requires-clause-room
visit-requires-clause-room c k w =
    let below = c.loop-node.invariant.inside c.loop-node.node-index (omega arith) in
    omega (arith, c.requires.closed.within _ k below (rw c.get.ensures at w))

pub loop-node-preserved : goal.loop-node-preserved
loop-node-preserved c = elim c.if-not-marks-node.branch [
  | then-not-marks-node+in_ok-visit w ↦ rw (w.marks-is, w.marked-is) (record {
    room = omega arith;
    inside = c.loop-node.invariant.inside;
    are = w.in_ok-visit.ensures.marked;
    gathered = λ x. joined_more (rw w.get.ensures at (w.in_ok-visit.ensures.added x))
        (c.loop-node.invariant.gathered x)
        (among_some (λ b. Contains (get_or c.args.lists.now b []) x) c.args.nodes.now c.loop-node.node-index);
  })
  | else-not-marks-node w ↦
      let g = c.loop-node.invariant in
      let n = c.loop-node.node-index in
      let p = get_or c.args.nodes.now n 0 in
      let inside = g.inside n (omega arith) in
      let (b, at, v) = (g.gathered p).0 ((g.are.same p).0 (omega arith, w.if-not-marks-node.false)) in
      let first = g.inside at.0 (omega arith) in
      rw (w.marks-is, w.marked-is) (record {
        room = g.room;
        inside = g.inside;
        are = g.are;
        gathered = λ x. joined_there (g.gathered x)
            (among_some (λ b. Contains (get_or c.args.lists.now b []) x) c.args.nodes.now n)
            (λ is. (g.gathered x).1 (b, at, c.requires.closed.closed b p x (omega arith) v is));
      })
]

pub returns-clause-gathered : goal.returns-clause-gathered
returns-clause-gathered c x =
    let all = among_some_all (λ b. Contains (get_or c.args.lists.now b []) x) c.args.nodes.now _ (omega arith) in
    joined_two (c.loop-node.invariant.gathered x) (all.1, all.0)
