use Rattle.std.proofs.lemmas.Result.{IfOk-weaker}
use Rattle.grpcweb_core.specs.Http.{answer_over_http}
use Rattle.grpcweb_service.proofs.Statuses.{status_of}
use Rattle.grpcweb_service.proofs.response.response_to.Goals as goal

pub response_of-requires : goal.response_of-requires
response_of-requires g c = status_of c.in_ok-answer.ensures

pub returns : goal.returns
returns g c =
    let asked =
    rw (
      c.as_str.ensures.value,
      c.method.ensures,
      c.path.ensures.value,
      c.uri.ensures,
      c.content_type_of.ensures,
      c.deref.ensures.value,
      c.body-2.ensures,
    ) at c.in_ok-answer.ensures in
    IfOk-weaker c.response_of.result _ _ (λ given is. (answer_over_http c.in_ok-answer.answer, asked, is))
    c.response_of.ensures
