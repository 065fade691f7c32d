use Rattle.reflect_core.proofs.OneResponse.{one_response}
use Rattle.reflect_core.proofs.laws.responses_are_unique.Goals as goal

pub returns : goal.returns
returns _ c d mode body a b sound same = one_response c d sound same mode body a b
