use Rattle.reflect_core.proofs.ShortReplies.{replies_short}
use Rattle.reflect_core.proofs.laws.replies_are_short.Goals as goal

pub returns : goal.returns
returns _ c mode body bytes sound = replies_short c sound mode body bytes
