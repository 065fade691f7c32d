use Rattle.http_connection.specs.Responses.{IsAnswered}
use Rattle.http_connection.proofs.Answering.{of_clone}
use Rattle.http_connection.proofs.service.ResponderServiceServiceRequestIncoming.call.Goals as goal

pub returns-clause-called : goal.returns-clause-called
returns-clause-called g c =
    λ sent may.
    let head = may.1.0 in
    let receiving = c.receive.ensures in (
      may.0,
      record {
        head = cc;
        body = rw (receiving.most, receiving.incoming, receiving.body) at may.1.1;
      },
      of_clone (λ responder. IsAnswered g.T.Responder.responds responder may.0 sent) _ c.try_clone.result c.try_clone.ensures
          (rw c.ok.ensures.value at may.2),
    )
