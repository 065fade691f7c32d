use Rattle.first_reach.proofs.Replies.{carries_roots}
use Rattle.first_reach.proofs.laws.repeat_carries_roots.Goals as goal

pub returns : goal.returns
returns c = carries_roots
