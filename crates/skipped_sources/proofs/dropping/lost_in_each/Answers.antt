use Rattle.std.proofs.lemmas.Result.{IfOk-weaker}
use Rattle.share_work.proofs.Giving.{all_of_gives}
use Rattle.skipped_sources.specs.Losing.{SourceLoses}
use Rattle.skipped_sources.proofs.dropping.lost_in_each.Goals as goal

pub returns : goal.returns
returns g c = IfOk-weaker c.each_in_shares.result _ _
    (λ lists. all_of_gives (SourceLoses c.args.limits.now c.args.names.now) 0 c.args.sources.now lists.items)
    c.each_in_shares.ensures.outs
