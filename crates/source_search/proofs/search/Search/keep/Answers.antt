use Rattle.source_search.proofs.Common.{arith, append-nil, map-append}
use Rattle.source_search.proofs.Asking.{put_name}
use Rattle.source_search.proofs.search.Search.keep.Goals as goal

pub returns-in_default : goal.returns-in_default
returns-in_default c = grind (arith, append-nil, put_name)

pub returns : goal.returns
returns c = grind (arith, map-append, put_name)
