use Rattle.std.proofs.lemmas.Result.{IfOk-weaker}
use Rattle.http_connection.proofs.Answering.{at_ok}
use Rattle.http_connection.proofs.responder.AnyResponder.respond.Goals as goal

pub returns : goal.returns
returns g c =
    IfOk-weaker c.self.result _ _ (λ answered says. (answered.line, says))
    (at_ok g.F.Fn c.args.self.now c.args.request c.self.result (record { met = c.self.ensures }))
