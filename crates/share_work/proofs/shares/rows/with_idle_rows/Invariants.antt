use Rattle.share_work.proofs.Common.{◌≤◌, GivesRows}
use Rattle.share_work.proofs.shares.rows.with_idle_rows.Given as goal

abbrev pub invariant-loop-worker : goal.invariant-loop-worker
invariant-loop-worker g l =
    (l.busy ≤ l._worker)
    × (l._worker ≤ l.fn.job.plan.workers)
    × GivesRows (g.W.Work.gives l.fn.job.work.now) (λ v. v.items) (λ r. r.items) l.fn.job.plan.workers l.fn.job.plan.cut
    l.fn.job.items.now 0 l._worker
    l.rows.items
