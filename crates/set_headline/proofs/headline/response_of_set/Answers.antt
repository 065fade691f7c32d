use Rattle.set_headline.proofs.EveryAnswer.{every_fault, every_response}
use Rattle.set_headline.proofs.headline.response_of_set.Goals as goal

pub returns-clause-every_response : goal.returns-clause-every_response
returns-clause-every_response g c = every_response c.args.mode c.args.limits.now c.args.set.now c.args.body.now
    c.first_response.result c.first_response.ensures.response c.first_response.ensures.first

pub returns-clause-every_fault : goal.returns-clause-every_fault
returns-clause-every_fault g c = every_fault c.args.mode c.args.limits.now c.args.set.now c.args.body.now
    c.first_response.result c.first_response.ensures.response c.first_response.ensures.first
