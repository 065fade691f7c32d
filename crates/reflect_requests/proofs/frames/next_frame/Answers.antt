use Rattle.std.proofs.Common.{arith}
use Rattle.reflect_requests.proofs.FrameRows.{other_message}
use Rattle.reflect_requests.proofs.frames.next_frame.Goals as goal

pub returns-in-None : goal.returns-in-None
returns-in-None c =
    let message = c.in-Ok.cut.0.now in
    other_message c.args.limits.now c.args.count c.args.rest.now message c.in-Ok.cut.1.now (omega arith) c.in-Ok.ensures
    (rw c.in-None.is at c.in_ok-request.ensures)
