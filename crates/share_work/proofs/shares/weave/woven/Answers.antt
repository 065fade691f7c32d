use Rattle.share_work.proofs.Common.{rules, arith, ◌≡◌, ◌+◌, ◌*◌, ◌<◌, length, refl, div_ceil_times}
use Rattle.share_work.proofs.PieceRows.{gives_all, piece_inside, rows_turned, one_piece_more}
use Rattle.share_work.proofs.shares.weave.woven.Goals as goal

pub unreachable-requires-in_default-pop_front : goal.unreachable-requires-in_default-pop_front
unreachable-requires-in_default-pop_front g c =
    let job = c.args.job.now in let p = c.loop-piece._piece in
    let inside : p * job.plan.cut < length job.items.now =
    piece_inside _ _ p job.plan.some_items
    (rw (← c.cut.ensures, ← c.div_ceil-piece-end.ensures) c.loop-piece-test.true) in
    let e : (p + 0 + 0 * job.plan.workers) * job.plan.cut ≡ p * job.plan.cut = grind arith in
    let row = c.loop-piece.invariant.0.each 0 c.in-Some.row (rw c.in-Some.ensures.items refl) in
    let whole = row.whole 0 (rw e inside) in search rules

pub loop-piece-preserved : goal.loop-piece-preserved
loop-piece-preserved g c =
    let job = c.args.job.now in let p = c.loop-piece._piece in let row = c.in-Some.row in
    let part = (c.loop-piece.invariant.0.each 0 row (rw c.in-Some.ensures.items refl)).pieces 0 c.in-Some-pop_front.part
    (rw c.in-Some-pop_front.ensures.items refl) in
    let same : p + 0 + 0 * job.plan.workers ≡ p = grind arith in
    let rows = rw c.in-Some.ensures.items at c.loop-piece.invariant.0 in (
      rw c.in_ok-push_back.ensures.items
          (rows_turned _ _ _ _ _ _ p row _ _ c.in-Some-pop_front.part rows c.in-Some-pop_front.ensures.items),
      rw c.in_ok-append.ensures.items
          (one_piece_more (g.W.Work.gives job.work.now) _ _ p _ _ c.loop-piece.invariant.1 (rw same at part)),
    )

pub returns : goal.returns
returns g c =
    let job = c.args.job.now in let all = div_ceil_times (length job.items.now) job.plan.cut job.plan.some_items in
    let end : c.div_ceil-piece-end.result ≡ c.loop-piece._piece =
    omega (arith, c.loop-piece-test.false, c.loop-piece.auto._piece-end) in
    gives_all (g.W.Work.gives job.work.now) _ _ c.loop-piece._piece _
    (rw (← end, c.div_ceil-piece-end.ensures, c.cut.ensures) all.0) c.loop-piece.invariant.1
