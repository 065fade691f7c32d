use Rattle.std.proofs.Common.{arith}
use Rattle.skipped_sources.proofs.Blanking.{sources_more}
use Rattle.skipped_sources.proofs.blanks.blank_sources.Goals as goal

pub loop-position-preserved : goal.loop-position-preserved
loop-position-preserved c = sources_more c.loop-position.sources _ c.args.lists.now c.loop-position.position
    c.index-sources-position.result c.blank_source.new.source c.index-lists-position.result (omega arith) (omega arith)
    c.index-lists-position.is (rw c.as_slice.ensures.value at c.blank_source.ensures) c.loop-position.invariant
