use Rattle.std.proofs.Common.{inl, ◌≡◌, ◌∙◌, ap, ℕ, ◌<◌, length, length-append, arith, refl}
use Rattle.digraph.proofs.Common.{common_steps}
use Rattle.digraph.proofs.Levels.{passed_none, empty_from, levels_next, levels_ranked, levels_order, levels_stuck, round_shorter}
use Rattle.digraph.proofs.Rows.{no_items, written, length_graph}
use Rattle.digraph.proofs.ranks.rank_nodes.Goals as goal

pub loop-alloc-init : goal.loop-alloc-init
loop-alloc-init c =
    let len = length_graph c.args.graph.now in
    let none = c.in_ok-marks.ensures.none in
    rw c.new-order.ensures.items (record {
      room = omega (arith, c.in_ok-marks.ensures.size);
      size = omega (arith, c.in_ok-ranks.ensures.len);
      known = λ a. (λ m. absurd (none a m), λ w. absurd (no_items a w));
      rises = c.in_ok-ready.ensures.rises;
      ready = λ a. (
        λ w. (let leaf = (c.in_ok-ready.ensures.members a).0 w in
            (omega arith, none a, λ b edge. absurd (no_items b (rw leaf.1 at edge)))),
        λ w. (c.in_ok-ready.ensures.members a).1 (omega arith, empty_from _ (λ b edge. none b (w.2 b edge))),
      );
      passed = passed_none _ _ _ _ (omega (arith, c.in_ok-passed.ensures.len))
          (c.in_ok-passed.ensures.items_if_clones_equal (λ y h. h));
      few = omega arith;
      above = λ a b m. absurd (none a m);
      least = λ a m. absurd (none a m);
      below = λ a m. absurd (none a m);
      late = λ a w. inl refl;
      ordered = λ k h. absurd (omega arith);
    })

pub settle-requires : goal.settle-requires
settle-requires c = record {
  room = λ k w. (let below = ((c.loop-alloc.invariant.ready k).0 (rw c.deref.ensures.value at w)).0 in
      (omega arith, omega arith));
}

pub next_ready-requires-clause-within : goal.next_ready-requires-clause-within
next_ready-requires-clause-within c a b edge =
    let len : length c.settle.new.marks ≡ length c.loop-alloc.marks.items = omega arith in
    let seen = ap length (c.deref-in-loop-alloc-3.ensures.value ∙ written _ _ _ c.loop-alloc.marks.ok.0 len) in
    omega (arith, c.requires a b edge, length_graph c.args.graph.now)

pub next_ready-requires-clause-turned : goal.next_ready-requires-clause-turned
next_ready-requires-clause-turned c = rw c.deref-in-loop-alloc-2.ensures.value c.in_ok-turned.ensures.turned

pub next_ready-requires-clause-settled : goal.next_ready-requires-clause-settled
next_ready-requires-clause-settled c b w =
    let below = ((c.loop-alloc.invariant.ready b).0 (rw c.deref-in-loop-alloc-4.ensures.value at w)).0 in
    omega (arith, c.in_ok-turned.ensures.size, length_graph c.args.graph.now)

pub next_ready-requires-clause-passed : goal.next_ready-requires-clause-passed
next_ready-requires-clause-passed c = grind (arith, common_steps)

pub loop-alloc-smaller : goal.loop-alloc-smaller
loop-alloc-smaller c =
    let some : 0 < length c.loop-alloc.ready.items = grind (arith, c.is_empty.ensures, c.loop-alloc-test.true) in
    let short = round_shorter _ _ c.loop-alloc.invariant some in
    let order = rw c.deref-in-loop-alloc.ensures.value at c.in_ok-extend_from_slice.ensures.items in
    let more = rw (length-append {A = ℕ}) at (ap length order) in omega (arith, length_graph c.args.graph.now)

pub loop-alloc-preserved : goal.loop-alloc-preserved
loop-alloc-preserved c =
    let marks_len : length c.settle.new.marks ≡ length c.loop-alloc.marks.items = omega arith in
    let ranks_len : length c.settle.new.ranks ≡ length c.loop-alloc.ranks.items = omega arith in
    let passed_len : length c.next_ready.new.passed ≡ length c.loop-alloc.passed.items = omega arith in
    let marks_is = written _ _ _ c.loop-alloc.marks.ok.0 marks_len in
    let seen = c.deref-in-loop-alloc-3.ensures.value ∙ marks_is in
    rw (marks_is, written _ _ _ c.loop-alloc.ranks.ok.0 ranks_len, written _ _ _ c.loop-alloc.passed.ok.0 passed_len)
    (levels_next _ _ _ c.loop-alloc.invariant (record {
      next = refl;
      some = grind (arith, c.is_empty.ensures, c.loop-alloc-test.true);
      appended = rw c.deref-in-loop-alloc.ensures.value at c.in_ok-extend_from_slice.ensures.items;
      marks_size = marks_len;
      ranks_size = ranks_len;
      marked = rw (c.deref_mut.ensures.value, c.deref.ensures.value) at c.settle.ensures.marked;
      ranked = rw c.deref.ensures.value at c.settle.ensures.ranked;
      others = rw (c.deref_mut-in-loop-alloc.ensures.value, c.deref.ensures.value) at c.settle.ensures.others;
      passed = rw seen at c.in_ok-ready-2.ensures.passed;
      rises = c.in_ok-ready-2.ensures.rises;
      members = rw (seen, c.deref-in-loop-alloc-4.ensures.value) at c.in_ok-ready-2.ensures.members;
    }))

pub returns-then-len-graph-clause-none : goal.returns-then-len-graph-clause-none
returns-then-len-graph-clause-none c = levels_stuck _ _
    (λ a b edge. omega (arith, c.requires a b edge, length_graph c.args.graph.now))
    c.loop-alloc.invariant (grind (arith, c.is_empty.ensures, c.loop-alloc-test.false))
    (omega (arith, length_graph c.args.graph.now))

pub returns-clause-ranks : goal.returns-clause-ranks
returns-clause-ranks c = levels_ranked _ _ c.loop-alloc.invariant (omega (arith, length_graph c.args.graph.now))

pub returns-clause-order : goal.returns-clause-order
returns-clause-order c = levels_order _ _ c.loop-alloc.invariant (omega (arith, length_graph c.args.graph.now))
