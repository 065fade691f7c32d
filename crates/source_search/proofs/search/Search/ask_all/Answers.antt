use Rattle.source_search.proofs.Common.{arith, common_steps, flat_map-append, take_more}
use Rattle.source_search.proofs.Asking.{asks_more}
use Rattle.source_search.proofs.search.Search.ask_all.Goals as goal

pub loop-names-preserved : goal.loop-names-preserved
loop-names-preserved g c = grind (arith, common_steps, asks_more, flat_map-append, take_more)
