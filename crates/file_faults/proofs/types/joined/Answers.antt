use Rattle.std.proofs.Common.{arith, take_all}
use Rattle.file_faults.proofs.Joining.{rows_more}
use Rattle.file_faults.proofs.types.joined.Goals as goal

pub loop-file-preserved : goal.loop-file-preserved
loop-file-preserved c = rows_more c.args.rows.now c.loop-file.file c.index-rows-file.result _ _ (omega arith)
    c.index-rows-file.is (rw c.as_slice.ensures.value at c.in_ok-put_row.ensures) c.loop-file.invariant
