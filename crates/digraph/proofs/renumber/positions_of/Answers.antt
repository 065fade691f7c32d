use Rattle.std.proofs.Common.{sym, length, refl, arith}
use Rattle.digraph.proofs.Rows.{among_all}
use Rattle.digraph.proofs.Renumbering.{placed_more, inside_order}
use Rattle.digraph.proofs.renumber.positions_of.Goals as goal

pub index_mut-requires : goal.index_mut-requires
index_mut-requires c = grind (arith, inside_order)

pub loop-position-preserved : goal.loop-position-preserved
loop-position-preserved c = placed_more _ _ _ _
    (rw (sym c.as_slice-order.ensures.value) at c.requires) (omega arith) c.loop-position.invariant

pub returns : goal.returns
returns c =
    let o = rw (sym c.as_slice-order.ensures.value) at c.requires in
    let order = c.as_slice-order.result.now in
    let p = c.loop-position.invariant in
    rw (sym c.as_slice-order.ensures.value) (record {
      size = p.size;
      position = λ k below. (inside_order _ order o k below, p.placed k (omega arith));
      node = λ a below. (
          let at = (among_all order (length order) a refl).0 ((o.whole a).1 (omega (arith, o.size))) in
          rw (rw at.2 at (p.placed at.0 (omega (arith, at.1)))) (at.1, at.2));
    })
