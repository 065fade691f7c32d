-- Answers over HTTP, as responses of `http`.
use Rattle.std.specs.Prelude.{◌≡◌, ℕ, List, [], codes, fold, Vec, Option, None, Some, if◌then◌else◌, option_and_then}
use Rattle.std.specs.declared.alloc.Global.{Global}
use Rattle.first_reach.specs.declared.mode.Mode.{Mode}
use Rattle.grpcweb_core.specs.Http.{AnswerOverHttp, IsAnswerOverHttp, RequestOverHttp}
use Rattle.http.specs.declared.request.Request.{Request}
use Rattle.http.specs.Request as request
use Rattle.http.specs.declared.response.Response.{Response}
use Rattle.http.specs.Response as response
use Rattle.http.specs.FieldValue.{FieldValue, is_visible_text, plain_value}
use Rattle.http.specs.HeaderMap.{Entries, append, get}
use Rattle.http.specs.Token.{lowercase}
use Rattle.http.specs.Uri.{uri_path}
use Rattle.proto_compilation.specs.Compilation.{Compilation}

-- fields with these behind them, in their order
abbrev pub fields_behind : Entries FieldValue → List (List ℕ × List ℕ) → Entries FieldValue
fields_behind fields added = fold (λ m field. append m (lowercase field.0) (plain_value field.1)) fields added

-- the response with the status, the header fields in their order, and the body of an answer
pub record IsResponseOf (answer : AnswerOverHttp) (given : Response (Vec ℕ Global)) : Type 0 where
  pub status : (response.head_of given).status ≡ answer.status
  pub headers : (response.head_of given).headers ≡ fields_behind [] answer.headers
  pub body : (response.body_of given).items ≡ answer.body

-- a field's value, if it is text
abbrev pub text_of : FieldValue → Option (List ℕ)
text_of value = if is_visible_text value.bytes then Some value.bytes else None

-- the first content type, if it is text
abbrev pub content_type_of : Request (Vec ℕ Global) → Option (List ℕ)
content_type_of asked = option_and_then text_of (get (request.head_of asked).headers (codes "content-type"))

-- what an answer depends on: the method, the path, the content type and the body
abbrev pub request_over_http : Request (Vec ℕ Global) → RequestOverHttp
request_over_http asked = record {
  method = (request.head_of asked).method;
  target = uri_path (request.head_of asked).uri;
  content_type = content_type_of asked;
  body = (request.body_of asked).items;
}

-- the response that is the answer to the request
abbrev pub IsResponseFor : Mode → Compilation → Request (Vec ℕ Global) → Response (Vec ℕ Global) → Type 0
IsResponseFor mode c asked given =
    (answer : AnswerOverHttp) × IsAnswerOverHttp mode c (request_over_http asked) answer × IsResponseOf answer given
