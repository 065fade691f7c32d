use Rattle.std.proofs.Common.{◌≡◌, ◌∙◌, Some, ap}
use Rattle.std.specs.Prelude.{codes, option_and_then}
use Rattle.http.specs.HeaderMap.{get}
use Rattle.http.specs.Request.{head_of}
use Rattle.grpcweb_service.specs.Responses.{text_of}
use Rattle.grpcweb_service.proofs.Fields.{read_text}
use Rattle.grpcweb_service.proofs.response.content_type_of.Goals as goal

pub returns-in-Some : goal.returns-in-Some
returns-in-Some c =
    let first : Some c.in-Some.value.now ≡ get (head_of c.args.request.now).headers (codes "content-type") =
    rw c.headers.ensures at c.in-Some.ensures.value in
    rw c.ok.ensures.value (read_text c.in-Some.value.now c.to_str.result c.to_str.ensures.ok c.to_str.ensures.succeeds)
    ∙ ap (option_and_then text_of) first
