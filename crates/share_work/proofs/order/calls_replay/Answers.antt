use Rattle.share_work.proofs.Replay as law
use Rattle.share_work.proofs.order.calls_replay.Goals as goal

pub returns : goal.returns
returns c = law.calls_replay
