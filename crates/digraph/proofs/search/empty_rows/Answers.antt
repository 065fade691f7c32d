use Rattle.digraph.proofs.Common.{length-append, [], ◌∷◌, inl, inr, arith, graph_of}
use Rattle.digraph.proofs.Rows.{edge_push, graph_push, no_items}
use Rattle.digraph.proofs.search.empty_rows.Goals as goal

pub loop-preserved : goal.loop-preserved
loop-preserved c =
    let rows = c.loop.rows.items in
    let v = c.new.result in
    rw c.in_ok-push.ensures.items (record {
      size = omega (arith, length-append rows (v ∷ []));
      empty = λ a b edge. elim ((edge_push (graph_of rows) v.items a b).0 (rw (graph_push rows v) at edge)) [
        | inl before ↦ c.loop.invariant.empty a b before
        | inr (last, w) ↦ no_items b (rw c.new.ensures.items at w)
      ];
    })
