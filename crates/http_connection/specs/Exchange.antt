-- Words on a request that comes in and is answered then.
use Rattle.std.specs.Prelude.{List, ℕ, IsSomeAnd}
use Rattle.std.specs.Arc.{arc_value}
use Rattle.http.specs.declared.response.Response.{Response}
use Rattle.http_body_util.specs.declared.full.Full.{Full}
use Rattle.http_connection.specs.Messages.{WholeRequest, WholeResponse}
use Rattle.http_connection.specs.Receiving.{MayReceive}
use Rattle.http_connection.specs.Responses.{IsAnswered}
use Rattle.http_connection.specs.declared.service.ResponseFuture.{ResponseFuture}

-- it may be answered by this response
abbrev pub MayAnswer : {T : Type 0} → (T → WholeRequest → WholeResponse → Type 0) → ResponseFuture T
    → Response (Full (List ℕ)) → Type 0
MayAnswer responds a sent =
    (received : WholeRequest) × MayReceive a.receiving received
    × IsSomeAnd a.responder (λ shared. IsAnswered responds (arc_value shared) received sent)
