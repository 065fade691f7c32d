use Rattle.std.proofs.Common.{ℕ, ◌≡◌, ◌<◌, ◌≤◌, ◌*◌, ◌∙◌, arith, le-mul_of_pos_right}
use Rattle.std.proofs.lemmas.Grind.{common_steps}
use Rattle.share_work.proofs.PieceRows.{range_piece, row_more, row_whole, row_has, takes_part}
use Rattle.share_work.proofs.shares.rows.row_of.Goals as goal

-- a row's pieces are no closer than the pieces of one turn
turn_wide : (workers cut items : ℕ) → cut ≡ items → 0 < items → workers ≤ workers * cut
turn_wide workers cut items is some = le-mul_of_pos_right workers (rw is some)

pub piece-requires-clause-takes : goal.piece-requires-clause-takes
piece-requires-clause-takes g c =
    let items = c.args.job.now.items.now in
    takes_part (g.W.Work.takes c.args.job.now.work.now) items _ _ _
    (rw (← c.min-count.ensures) at (range_piece items c.loop-first.first c.cut-cut.result)) c.requires.takes

pub returns-in_err-outs-clause-kept : goal.returns-in_err-outs-clause-kept
returns-in_err-outs-clause-kept g c = grind (arith, common_steps)

pub returns-in_err-outs-clause-within : goal.returns-in_err-outs-clause-within
returns-in_err-outs-clause-within g c = grind (arith, common_steps)

pub returns-in_err-push_back-clause-kept : goal.returns-in_err-push_back-clause-kept
returns-in_err-push_back-clause-kept g c = grind (arith, common_steps)

pub returns-in_err-push_back-clause-within : goal.returns-in_err-push_back-clause-within
returns-in_err-push_back-clause-within g c = grind (arith, range_piece, row_more)

pub returns-then-items-first-clause-kept : goal.returns-then-items-first-clause-kept
returns-then-items-first-clause-kept g c = grind (arith, common_steps)

pub returns-then-items-first-clause-within : goal.returns-then-items-first-clause-within
returns-then-items-first-clause-within g c = grind (arith, range_piece, row_more)

pub returns-then-items-first-clause-gained : goal.returns-then-items-first-clause-gained
returns-then-items-first-clause-gained g c =
    let items = c.args.job.now.items.now in let made = c.in_ok-outs.ensures in
    let is = rw (← c.min-count.ensures) at (range_piece items c.loop-first.first c.cut-cut.result) in
    row_has _ _ _ _ _ _ _ _ _ _ _ _ (row_more _ _ _ _ _ _ _ _ _ _ _ _ _ c.in_ok-outs.outs _ _ _ _
    c.loop-first.invariant.3 is c.workers-workers.ensures c.cut-cut.ensures made.outs made.kept made.within made.gained
    c.in_ok-push_back.ensures.items) (omega (arith, c.if-items-first.true))

pub returns-then-items-first-clause-row : goal.returns-then-items-first-clause-row
returns-then-items-first-clause-row g c =
    let items = c.args.job.now.items.now in let made = c.in_ok-outs.ensures in
    let is = rw (← c.min-count.ensures) at (range_piece items c.loop-first.first c.cut-cut.result) in
    row_whole _ _ _ _ _ _ _ _ _ _ _ _ (row_more _ _ _ _ _ _ _ _ _ _ _ _ _ c.in_ok-outs.outs _ _ _ _
    c.loop-first.invariant.3 is c.workers-workers.ensures c.cut-cut.ensures made.outs made.kept made.within made.gained
    c.in_ok-push_back.ensures.items) (omega (arith, c.if-items-first.true))

pub overflow_add-piece : goal.overflow_add-piece
overflow_add-piece g c =
    omega (
      arith,
      c.loop-first.invariant.0,
      turn_wide c.workers-workers.result _ _ c.cut-cut.ensures c.args.job.now.plan.some_items,
    )

pub loop-first-smaller : goal.loop-first-smaller
loop-first-smaller g c =
    omega (
      arith,
      c.workers-workers.ensures,
      turn_wide c.workers-workers.result _ _ c.cut-cut.ensures c.args.job.now.plan.some_items,
    )

pub loop-first-preserved : goal.loop-first-preserved
loop-first-preserved g c =
    let items = c.args.job.now.items.now in let made = c.in_ok-outs.ensures in
    let is = rw (← c.min-count.ensures) at (range_piece items c.loop-first.first c.cut-cut.result) in
    let new = row_more _ _ _ _ _ _ _ _ _ _ _ _ _ c.in_ok-outs.outs _ _ _ _ c.loop-first.invariant.3 is
    c.workers-workers.ensures c.cut-cut.ensures made.outs made.kept made.within made.gained
    c.in_ok-push_back.ensures.items in (
      omega (
        arith,
        c.loop-first.invariant.0,
        turn_wide c.workers-workers.result _ _ c.cut-cut.ensures c.args.job.now.plan.some_items,
      ),
      made.fits,
      made.number ∙ c.loop-first.invariant.2,
      new,
    )

pub returns-clause-gained : goal.returns-clause-gained
returns-clause-gained g c = row_has _ _ _ _ _ _ _ _ _ _ _ _ c.loop-first.invariant.3 c.loop-first-test.false

pub returns-clause-row : goal.returns-clause-row
returns-clause-row g c = grind (arith, common_steps)
