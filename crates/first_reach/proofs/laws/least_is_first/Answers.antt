use Rattle.first_reach.proofs.Firsts.{least_is}
use Rattle.first_reach.proofs.laws.least_is_first.Goals as goal

pub returns : goal.returns
returns c = least_is
