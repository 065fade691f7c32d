use Rattle.schema_headline.specs.Headline.{IsResponseOf}
use Rattle.schema_headline.proofs.EveryAnswer.{every_answer, every_fault}
use Rattle.schema_headline.proofs.OneAnswer.{one_response_of, response_from}
use Rattle.schema_headline.proofs.headline.response_to_sources.Goals as goal

pub returns-clause-every_response : goal.returns-clause-every_response
returns-clause-every_response g c =
    let limits = c.args.limits.now in let sources = c.args.sources.now in let body = c.args.body.now in
    every_answer limits sources (IsResponseOf c.args.mode limits sources body)
    (response_from c.args.mode limits sources body)
    (one_response_of c.args.mode limits sources body) c.first_response.result c.first_response.ensures.response
    c.first_response.ensures.first

pub returns-clause-every_fault : goal.returns-clause-every_fault
returns-clause-every_fault g c =
    let limits = c.args.limits.now in let sources = c.args.sources.now in let body = c.args.body.now in
    every_fault limits sources (IsResponseOf c.args.mode limits sources body)
    (response_from c.args.mode limits sources body) c.first_response.result
    c.first_response.ensures.response c.first_response.ensures.first
