use Rattle.digraph.proofs.Common.{length-append, sym, [], ◌∷◌, length, ◌∙◌, ap, arith, IsWithin, successors, graph_of, HasPosition, node_at}
use Rattle.digraph.proofs.Rows.{below_more, edge_push, graph_push, length_graph}
use Rattle.digraph.proofs.renumber.renumber_rows.Goals as goal

pub falling_positions-requires : goal.falling_positions-requires
falling_positions-requires c b w =
    omega (arith, c.requires.within _ b (rw c.row.ensures at w), length_graph c.args.graph.now)

pub loop-node-preserved : goal.loop-node-preserved
loop-node-preserved c =
    let rows = graph_of c.loop-node.rows.items in
    rw (ap graph_of c.in_ok-push.ensures.items ∙ graph_push c.loop-node.rows.items c.in_ok-row.row) (record {
      size = omega (arith, length-append rows (c.in_ok-row.row.items ∷ []));
      rowed = λ k j. below_more (λ i. HasPosition c.args.positions.now
          (successors (graph_of c.args.graph.now) (node_at c.args.order.now i)) j) c.loop-node.node-index k
          (rw c.loop-node.invariant.size at (edge_push rows c.in_ok-row.row.items k j))
          (c.loop-node.invariant.rowed k j) (rw c.row.ensures at (c.in_ok-row.ensures j));
    })

pub returns : goal.returns
returns c =
    let order = c.args.order.now in
    let p = c.requires.positions in
    let r = c.loop-node.invariant in
    let inside : IsWithin (graph_of c.args.graph.now) (length order) = rw c.requires.size at c.requires.within in
    record {
      size = r.size ∙ omega arith;
      edges = λ k j hk hj. (
        λ edge. (let (b, way, is) = ((r.rowed k j).0 edge).1 in
            rw (ap (node_at order) (sym is) ∙ (p.node b (inside (node_at order k) b way)).1) way),
        λ edge. (r.rowed k j).1 (omega arith, (node_at order j, edge, (p.position j hj).1)),
      );
      within = λ k j edge. (
          let w = ((r.rowed k j).0 edge).1 in
          let at = (p.node w.0 (inside (node_at order k) w.0 w.1)).0 in
          omega arith);
    }
