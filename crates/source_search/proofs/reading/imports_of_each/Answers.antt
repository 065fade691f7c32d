use Rattle.std.proofs.lemmas.Result.{IfOk-weaker}
use Rattle.source_search.proofs.Common.{SourceImports}
use Rattle.share_work.proofs.Giving.{all_of_gives}
use Rattle.source_search.proofs.reading.imports_of_each.Goals as goal

pub returns : goal.returns
returns g c = IfOk-weaker c.each_in_shares.result _ _
    (λ lists. all_of_gives (SourceImports c.args.limits.now) 0 c.args.sources.now lists.items)
    c.each_in_shares.ensures.outs
