use Rattle.source_search.proofs.Common.{arith, common_steps, map-append, take_more}
use Rattle.source_search.proofs.Asking.{asks_more}
use Rattle.source_search.proofs.search.Search.ask_each.Goals as goal

pub loop-name-preserved : goal.loop-name-preserved
loop-name-preserved g c = grind (arith, common_steps, asks_more, map-append, take_more)
