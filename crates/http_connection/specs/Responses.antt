-- What a client is sent, of what a responder gives for its request.
use Rattle.std.specs.Prelude.{◌≡◌, ℕ, [], List, codes, unwrap_or}
use Rattle.http.specs.declared.request.Request.{Request}
use Rattle.http.specs.Request as request
use Rattle.http.specs.declared.response.Response.{Response}
use Rattle.http.specs.Response as response
use Rattle.http_body_util.specs.declared.full.Full.{Full}
use Rattle.http.specs.FieldValue.{plain_value}
use Rattle.http.specs.HeaderMap.{append}
use Rattle.hyper.specs.declared.body.incoming.Incoming.{Incoming}
use Rattle.http_connection.specs.Messages.{WholeRequest, WholeResponse}
use Rattle.http_connection.specs.Receiving.{FillsUp}

-- the request with the head that came, and the body's first bytes, so many at most
pub record IsReceived {I : Type 0} (most : ℕ) (asked : Request (Incoming I)) (received : WholeRequest) : Type 0 where
  pub head : request.head_of received ≡ request.head_of asked
  pub body : FillsUp most (request.body_of asked) [] (request.body_of received).items

-- the response that was given, as the last one of its connection: `connection: close` stands behind its fields
pub record IsLastOf (given : WholeResponse) (sent : Response (Full (List ℕ))) : Type 0 where
  pub head : response.head_of sent ≡ record (response.head_of given) {
    headers = append (response.head_of given).headers (codes "connection") (plain_value (codes "close"));
  }
  pub body : unwrap_or (response.body_of sent).buf [] ≡ (response.body_of given).items

-- what the responder gave for this request, as it is sent
abbrev pub IsAnswered : {T : Type 0} → (T → WholeRequest → WholeResponse → Type 0) → T
    → WholeRequest → Response (Full (List ℕ)) → Type 0
IsAnswered responds responder received sent =
    (given : WholeResponse) × responds responder received given × IsLastOf given sent

-- the same for a request whose body comes in
abbrev pub IsAnsweredAsItCame : {T I : Type 0} → (T → WholeRequest → WholeResponse → Type 0) → T → ℕ
    → Request (Incoming I) → Response (Full (List ℕ)) → Type 0
IsAnsweredAsItCame responds responder most asked sent =
    (received : WholeRequest) × IsReceived most asked received × IsAnswered responds responder received sent
