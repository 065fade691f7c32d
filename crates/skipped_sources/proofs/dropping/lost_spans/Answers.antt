use Rattle.std.proofs.lemmas.Result.{IfOk-weaker}
use Rattle.source_folder.specs.Folder.{names_of}
use Rattle.skipped_sources.proofs.Blanking.{by_names}
use Rattle.skipped_sources.proofs.dropping.lost_spans.Goals as goal

pub returns : goal.returns
returns g c = IfOk-weaker c.lost_in_each.result _ _
    (λ lists. by_names c.args.limits.now (names_of c.args.sources.now) c.in_ok-names.names c.in_ok-names.ensures
    c.args.sources.now lists.items)
    c.lost_in_each.ensures
