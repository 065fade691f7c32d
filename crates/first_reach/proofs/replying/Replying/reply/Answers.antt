use Rattle.std.proofs.Common.{arith}
use Rattle.first_reach.proofs.Replies.{reply_first, reply_later}
use Rattle.first_reach.proofs.replying.Replying.reply.Goals as goal
use Rattle.first_reach.proofs.replying.Replying.reply.Goals.{then-get-position+in_ok-push+in_ok-add_others, else-get-position+in-Repeat+in_ok-push-2, else-get-position+in_default}

pub returns : goal.returns
returns g c = grind (arith, reply_first, reply_later)
