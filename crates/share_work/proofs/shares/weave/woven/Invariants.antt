use Rattle.share_work.proofs.Common.{GivesRows, GivesUpTo}
use Rattle.share_work.proofs.shares.weave.woven.Given as goal

abbrev pub invariant-loop-piece : goal.invariant-loop-piece
invariant-loop-piece g l =
    let job = l.fn.job in
    let gives = g.W.Work.gives job.work.now in
    GivesRows gives (λ v. v.items) (λ r. r.items) job.plan.workers job.plan.cut job.items.now l._piece
    job.plan.workers l.rows.items
    × GivesUpTo gives job.plan.cut job.items.now l._piece l.all.items
