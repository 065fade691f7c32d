use Rattle.digraph.proofs.Common.{common_steps, [], ◌≡◌, length, arith, graph_of, successors}
use Rattle.digraph.proofs.Rows.{below_push, below_skip, rises_push, push_iff}
use Rattle.digraph.proofs.ranks.leaves.Goals as goal
use Rattle.digraph.proofs.ranks.leaves.Goals.{then-is_empty+in_ok-push, else-is_empty}

pub loop-node-preserved : goal.loop-node-preserved
loop-node-preserved c =
    let g = graph_of c.args.graph.now in
    let n = c.loop-node.node in
    let l = c.loop-node.invariant in
    elim c.if-is_empty.branch [
      | then-is_empty+in_ok-push w ↦
          rw (w.leaves-is, w.in_ok-push.ensures.items) (record {
            rises = rises_push _ _ l.rises (λ a v. ((l.members a).0 v).0);
            members = λ a. below_push (λ x. successors g x ≡ []) n a (push_iff _ n a) (l.members a)
                (grind (arith, common_steps, c.row.ensures, c.is_empty.ensures, w.if-is_empty.true));
          })
      | else-is_empty w ↦ rw w.leaves-is (record {
        rises = l.rises;
        members = λ a. below_skip (λ x. successors g x ≡ []) n a (l.members a)
            (λ empty. grind (arith, c.row.ensures, c.is_empty.ensures, w.if-is_empty.false));
      })
    ]

pub returns-clause-members : goal.returns-clause-members
returns-clause-members c = let end : c.loop-node.node ≡ length c.args.graph.now = omega arith in
    rw end at c.loop-node.invariant.members
