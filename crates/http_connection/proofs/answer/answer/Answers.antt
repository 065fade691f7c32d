use Rattle.http_connection.proofs.answer.answer.Goals as goal

pub returns : goal.returns
returns g c = (
  c.in_ok-request.request,
  c.in_ok-request.was,
  rw c.in-Some.is (c.in_ok-response.field-0.response, rw c.deref.ensures at c.in_ok-response.ensures, c.in_ok-last.ensures),
)
