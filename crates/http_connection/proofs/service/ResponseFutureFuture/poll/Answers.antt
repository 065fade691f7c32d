use Rattle.std.proofs.Common.{Ok}
use Rattle.std.proofs.lemmas.Result.{IfOk-weaker}
use Rattle.http_connection.proofs.Answering.{answers_as_before}
use Rattle.http_connection.proofs.service.ResponseFutureFuture.poll.Goals as goal

pub returns-in-Pending-clause-same : goal.returns-in-Pending-clause-same
returns-in-Pending-clause-same g c =
    answers_as_before g.T.Responder.responds c.args.self.now.responder c.args.self.now.notes c.args.self.now.receiving c.poll.new.self
    (λ received may. c.in-Pending.ensures.same (Ok received) may)

pub returns-after-answered-clause-value : goal.returns-after-answered-clause-value
returns-after-answered-clause-value g c =
    IfOk-weaker c.answer-answered.result _ _ (λ sent answered.
    (answered.0, rw answered.1 at c.in-Ready.ensures.value, answered.2)) c.answer-answered.ensures
