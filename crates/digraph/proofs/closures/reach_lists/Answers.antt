use Rattle.digraph.proofs.Common.{◌∷◌, [], length-append, ◌≡◌, ◌∙◌, ap, length, arith, graph_of, IsReach}
use Rattle.digraph.proofs.Closing.{reach_closed, union_reach, each_push}
use Rattle.digraph.proofs.Rows.{written, leads_le}
use Rattle.digraph.proofs.closures.reach_lists.Goals as goal

pub push_union-requires-clause-nodes : goal.push_union-requires-clause-nodes
push_union-requires-clause-nodes c b w = omega (arith, c.requires c.loop-own.own b (rw c.row.ensures at w))

pub push_union-requires-clause-closed : goal.push_union-requires-clause-closed
push_union-requires-clause-closed c =
    rw c.loop-own.invariant.size (reach_closed _ _ _ c.requires c.loop-own.invariant.reaches)

pub push_union-requires-clause-rises : goal.push_union-requires-clause-rises
push_union-requires-clause-rises c b h = (c.loop-own.invariant.reaches b (omega arith)).rises

pub push_union-requires-clause-below : goal.push_union-requires-clause-below
push_union-requires-clause-below c b x h w =
    omega (arith, leads_le _ (λ k. k) c.requires _ _ (((c.loop-own.invariant.reaches b (omega arith)).members x).0 w))

pub loop-own-preserved : goal.loop-own-preserved
loop-own-preserved c =
    let g = graph_of c.args.graph.now in
    let own = c.loop-own.own in
    let room : length c.push_union.new.marks ≡ length c.loop-own.marks.items = omega arith in
    let same = written _ _ _ c.loop-own.marks.ok.0 room in
    let union = c.in_ok-push_union.ensures.union in
    let reach = union_reach g c.loop-own.lists own union.0 c.requires c.loop-own.invariant.reaches
    (rw c.row.ensures at union.2) in
    record {
      room = ap length same ∙ room ∙ c.loop-own.invariant.room;
      none = rw same c.in_ok-push_union.ensures.none;
      size = omega (arith, ap length union.1, length-append c.loop-own.lists (union.0 ∷ []));
      reaches = each_push (IsReach g) _ _ _ _ union.1 c.loop-own.invariant.size c.loop-own.invariant.reaches reach;
    }
