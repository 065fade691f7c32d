use Rattle.std.proofs.Common.{arith}
use Rattle.counted_io.proofs.Moving.{put_end, read_more}
use Rattle.counted_io.proofs.transfer.fill.Goals as goal

pub loop-filled-preserved : goal.loop-filled-preserved
loop-filled-preserved g c =
    let so = c.loop-filled.invariant in
    rw (put_end c.loop-filled.room c.read.new.buffer c.loop-filled.filled so.within)
    (read_more _ _ _ _ _ _ _ so c.in-Ok.ensures.bound.0 (omega (arith, c.in-Ok.count-is)) c.in-Ok.ensures.once)
