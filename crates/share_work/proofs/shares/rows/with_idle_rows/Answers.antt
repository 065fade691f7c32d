use Rattle.std.proofs.Common.{◌+◌, ◌*◌, ◌≤◌, length, arith, mul-le-mul_right}
use Rattle.share_work.proofs.PieceRows.{rows_idle}
use Rattle.share_work.proofs.shares.rows.with_idle_rows.Goals as goal

pub loop-worker-preserved : goal.loop-worker-preserved
loop-worker-preserved g c =
    let job = c.args.job.now in
    let inv = c.loop-worker.invariant in
    let past : length job.items.now ≤ (0 + c.loop-worker._worker) * job.plan.cut =
    grind (arith, mul-le-mul_right job.plan.cut inv.0, c.requires.idle) in
    let more = rows_idle _ _ _ _ _ _ _ _ _ _ c.new.ensures.items past inv.2 in
    (omega arith, omega arith, rw c.in_ok-push_back.ensures.items more)
