use Rattle.share_work.proofs.Common.{arith, common_steps}
use Rattle.share_work.proofs.least_table.LeastTable.new.Goals as goal

pub of_words-requires : goal.of_words-requires
of_words-requires c = grind (arith, common_steps)
