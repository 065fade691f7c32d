use Rattle.schema_headline.proofs.OneAnswer.{one_response_of, one_set}
use Rattle.schema_headline.proofs.laws.headline_is_unique.Goals as goal

pub returns-clause-set : goal.returns-clause-set
returns-clause-set c = one_set

pub returns-clause-response : goal.returns-clause-response
returns-clause-response c = one_response_of
