use Rattle.set_headline.proofs.headline.first_response.Goals as goal

pub returns-clause-response : goal.returns-clause-response
returns-clause-response g c = (c.in_ok-compiled.compiled, c.in_ok-compiled.ensures.read, c.in_ok-response.ensures)
