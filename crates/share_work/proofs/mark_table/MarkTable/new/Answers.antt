use Rattle.share_work.proofs.Common.{arith, common_steps}
use Rattle.share_work.proofs.mark_table.MarkTable.new.Goals as goal

pub of_words-requires : goal.of_words-requires
of_words-requires g c = grind (arith, common_steps)
