use Rattle.std.proofs.Common.{arith}
use Rattle.std.proofs.lemmas.List.{take_rest}
use Rattle.counted_io.proofs.Moving.{written_some}
use Rattle.counted_io.proofs.transfer.write_bytes.Goals as goal

pub loop-written-preserved : goal.loop-written-preserved
loop-written-preserved g c =
    written_some _ _ _ _ _ _ c.loop-written.invariant (omega (arith, c.in-Ok.count-is))
    (take_rest c.args.bytes.now c.loop-written.written) c.in-Ok.ensures.bound c.in-Ok.ensures.once
