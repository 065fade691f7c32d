use Rattle.first_reach.proofs.Replies.{carries}
use Rattle.first_reach.proofs.laws.carries_firsts.Goals as goal

pub returns : goal.returns
returns c = carries
