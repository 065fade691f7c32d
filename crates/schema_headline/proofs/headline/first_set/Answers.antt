use Rattle.schema_headline.proofs.headline.first_set.Goals as goal

pub returns-clause-set : goal.returns-clause-set
returns-clause-set g c = (c.in_ok-compiled.compiled, c.in_ok-compiled.ensures.compiled, c.in_ok-set.ensures)
