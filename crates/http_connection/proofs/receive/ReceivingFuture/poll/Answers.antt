use Rattle.std.proofs.Common.{◌∙◌, rules}
use Rattle.http_connection.specs.Receiving.{Takes}
use Rattle.http_connection.proofs.Filling.{behind_frame}
use Rattle.http_connection.proofs.receive.ReceivingFuture.poll.Goals as goal

pub loop-preserved : goal.loop-preserved
loop-preserved g c =
    let was = c.loop.self in
    let frame = c.in-Some-Ok.frame in
    let took : Takes (record was { incoming = c.poll_frame.new.self }) frame c.take_frame.new.self = search rules in (
      took.0 ∙ c.loop.invariant.0,
      search rules,
      λ all fills. c.loop.invariant.2 all
          (behind_frame was.most was.incoming c.poll_frame.new.self was.body.items all frame (search rules) (search rules)
          (rw (took.1, c.take_frame.ensures.incoming, took.2) at fills)),
    )
