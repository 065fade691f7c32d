use Rattle.std.proofs.Common.{length, ◌-◌, ◌≡◌, ◌≤◌}
use Rattle.share_work.proofs.PieceRows.{IsRow}
use Rattle.share_work.proofs.shares.rows.row_of.Given as goal

abbrev pub invariant-loop-first : goal.invariant-loop-first
invariant-loop-first g l =
    let job = l.fn.job in let work = job.work.now in
    (l.piece ≤ l.first) × g.W.Work.fits work l.seat × (g.W.Work.number work l.seat ≡ g.W.Work.number work l.fn.seat)
    × IsRow (g.W.Work.gives work) (λ v. v.items) (g.W.Work.holds work) (g.W.Work.adds work) job.plan.workers
    job.plan.cut job.items.now l.worker l.fn.seat l.first l.row.items l.seat

abbrev pub decreases-loop-first : goal.decreases-loop-first
decreases-loop-first g l = length l.items - l.first
