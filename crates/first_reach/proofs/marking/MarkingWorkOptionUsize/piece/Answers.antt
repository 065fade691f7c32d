use Rattle.std.proofs.Common.{◌≡◌, ℕ, inl, inr, ap, ◌∙◌, length, Option, Some, None, arith}
use Rattle.std.proofs.Math.Seq.{take-length}
use Rattle.std.proofs.lemmas.Option.{slice_get-get_or}
use Rattle.share_work.specs.Marks.{MarkSeatValue}
use Rattle.first_reach.proofs.Marks.{HasMarked, marks_root, marks_none}
use Rattle.first_reach.proofs.marking.MarkingWorkOptionUsize.piece.Given as given
use Rattle.first_reach.proofs.marking.MarkingWorkOptionUsize.piece.Goals as goal
use Rattle.first_reach.proofs.marking.MarkingWorkOptionUsize.piece.Goals.{in-Some, in_default}

pub loop-k-preserved : goal.loop-k-preserved
loop-k-preserved g c =
    let reach = g.F.Reach.list c.args.self.now.table.now.reach in
    let items = c.args.items.now in let k : ℕ = c.loop-k.k in
    let inv = c.loop-k.invariant in
    let at = slice_get-get_or items k None c.loop-k-test.true in
    elim c.match-root.branch [
      | in-Some w ↦
          let is = w.seat-is ∙ w.mark.ensures.calls.2 in (
            ap (λ (s : MarkSeatValue). s.table) is ∙ inv.0,
            ap (λ (s : MarkSeatValue). s.view.least.parts) is ∙ inv.1,
            marks_root reach c.args.first k w.in-Some.root items c.args.seat.now c.loop-k.seat c.match-root.seat
                (at ∙ ap (λ (x : Option ℕ). Some x) w.in-Some.is) (ap (λ (s : MarkSeatValue). s.view.marks) is) inv.2,
          )
      | in_default w ↦
          let same = w.seat-is in (
            ap (λ (s : MarkSeatValue). s.table) same ∙ inv.0,
            ap (λ (s : MarkSeatValue). s.view.least.parts) same ∙ inv.1,
            marks_none reach c.args.first k items c.args.seat.now c.loop-k.seat c.match-root.seat
                (at ∙ ap (λ (x : Option ℕ). Some x) w.in_default.is) same
                inv.2,
          )
    ]

-- the seat has the marks of all items
all_marked : (g : given.Over) (c : goal.After-loop-k g)
    → HasMarked (g.F.Reach.list c.args.self.now.table.now.reach) c.args.first c.args.items.now
    c.args.seat.now c.loop-k.seat
all_marked g c =
    let e : c.loop-k.k ≡ length c.args.items.now = omega arith in rw (e, take-length) at c.loop-k.invariant.2

pub returns-clause-kept : goal.returns-clause-kept
returns-clause-kept g c = λ x n h. (all_marked g c x n).1 (inl h)

pub returns-clause-within : goal.returns-clause-within
returns-clause-within g c = λ x n h. (all_marked g c x n).0 h

pub returns-clause-gained : goal.returns-clause-gained
returns-clause-gained g c = λ x n a. (all_marked g c x n).1 (inr a)
