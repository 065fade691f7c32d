use Rattle.digraph.proofs.Common.{length, inl, inr, lit<, refl, sym, ◌∙◌, ap, ◌<◌, arith, get_or_default, Contains-get_or, graph_of, successors, here}
use Rattle.digraph.proofs.Rows.{few, one_only}
use Rattle.digraph.proofs.Closing.{none_are, no_member, searching_next, closed}
use Rattle.digraph.proofs.search.search.Goals as goal

pub visit-requires-clause-marked : goal.visit-requires-clause-marked
visit-requires-clause-marked c = none_are _ _ c.requires.none c.requires.empty

pub loop-next-init : goal.loop-next-init
loop-next-init c = record {
  room = omega arith;
  are = c.in_ok-visit.ensures.marked;
  first = (c.in_ok-visit.ensures.added c.args.start).1 (inr (0, lit< tt, refl));
  sound = λ x w. elim ((c.in_ok-visit.ensures.added x).0 w) [
    | inl h ↦ absurd (no_member _ x c.requires.empty h)
    | inr h ↦ rw (sym (one_only c.args.start x h)) here
  ];
  done = λ k b h w. absurd (omega arith);
}

pub row-requires : goal.row-requires
row-requires c =
    let inside : c.loop-next.next < length c.loop-next.found.items = omega arith in
    let below = ((c.loop-next.invariant.are.same _).1 (Contains-get_or c.loop-next.found.items _ 0 inside)).0 in
    grind (arith, get_or_default)

pub visit-requires-in-loop-next-clause-room : goal.visit-requires-in-loop-next-clause-room
visit-requires-in-loop-next-clause-room c k w = omega (arith, c.requires.within _ k (rw c.row.ensures at w))

pub loop-next-smaller : goal.loop-next-smaller
loop-next-smaller c =
    let inv = c.loop-next.invariant in
    omega (
      arith,
      few c.loop-next.found.items (length c.args.graph.now) inv.are.once
          (λ q w. omega (arith, ((inv.are.same q).1 w).0)),
    )

pub loop-next-preserved : goal.loop-next-preserved
loop-next-preserved c =
    let inside : c.loop-next.next < length c.loop-next.found.items = omega arith in
    let at = c.index-node.ensures ∙ get_or_default _ _ _ 0 inside in
    searching_next _ _ _ _ _ _ _ _ _ inside (c.row.ensures ∙ ap (successors (graph_of c.args.graph.now)) at)
    (omega arith) c.in_ok-visit-2.ensures.marked c.in_ok-visit-2.ensures.prefix c.in_ok-visit-2.ensures.added
    c.loop-next.invariant

pub returns : goal.returns
returns c x = let inv = c.loop-next.invariant in (
  λ m. inv.sound x ((inv.are.same x).0 m),
  λ w. (inv.are.same x).1 (closed _ _ _ x (omega arith) inv.done _ w inv.first),
)
