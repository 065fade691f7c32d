use Rattle.schema_headline.specs.Headline.{IsSetOf}
use Rattle.schema_headline.proofs.EveryAnswer.{every_answer, every_fault}
use Rattle.schema_headline.proofs.OneAnswer.{one_set, set_from}
use Rattle.schema_headline.proofs.headline.set_of_sources.Goals as goal

pub returns-clause-every_set : goal.returns-clause-every_set
returns-clause-every_set g c =
    let limits = c.args.limits.now in let sources = c.args.sources.now in
    every_answer limits sources (IsSetOf limits sources) (set_from limits sources)
    (one_set limits sources) c.first_set.result c.first_set.ensures.set
    c.first_set.ensures.first

pub returns-clause-every_fault : goal.returns-clause-every_fault
returns-clause-every_fault g c =
    let limits = c.args.limits.now in let sources = c.args.sources.now in
    every_fault limits sources (IsSetOf limits sources)
    (set_from limits sources) c.first_set.result c.first_set.ensures.set c.first_set.ensures.first
