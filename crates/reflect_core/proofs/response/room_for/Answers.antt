use Rattle.reflect_core.proofs.RepliesMore.{short_at}
use Rattle.reflect_core.proofs.response.room_for.Goals as goal

pub reply_len-len-requires : goal.reply_len-len-requires
reply_len-len-requires c =
    short_at c.args.material.compiled.now c.args.material.services.now c.args.asked.now c.args.carried.now
    c.args.lengths.now c.loop-position.position 0 _
    c.requires.replyable c.requires.lengths c.loop-position-test.true
