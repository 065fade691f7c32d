-- Which answer a request over HTTP gets, by gRPC's PROTOCOL-WEB.md and RFC 9110.
use Rattle.std.specs.Prelude.{◌≡◌, ◌≢◌, ◌⊎◌, ℕ, List, [], ◌∷◌, ◌++◌, map, codes, All, Option, Some, None}
use Rattle.std.specs.Char.{to_ascii_lowercase}
use Rattle.first_reach.specs.declared.mode.Mode.{Mode}
use Rattle.grpcweb_core.specs.declared.mapping.HttpAnswer.{HttpAnswer}
use Rattle.proto_compilation.specs.Compilation.{Compilation}
use Rattle.reflect_core.specs.Response.{IsResponse, trailer}
use Rattle.reflect_requests.specs.Frames.{frame}

-- a text that is empty, or begins with this byte
abbrev pub IsEmptyOrBegins : ℕ → List ℕ → Type 0
IsEmptyOrBegins byte [] = Unit {0}
IsEmptyOrBegins byte (b ∷ more) = b ≡ byte

-- a target of this path, whatever query follows it
abbrev pub IsTargetOf : List ℕ → List ℕ → Type 0
IsTargetOf path target = (query : List ℕ) × (target ≡ path ++ query) × IsEmptyOrBegins 63 query

-- a target of a reflection service
abbrev pub IsReflection : List ℕ → Type 0
IsReflection target =
    IsTargetOf (codes "/grpc.reflection.v1.ServerReflection/ServerReflectionInfo") target
    ⊎ IsTargetOf (codes "/grpc.reflection.v1alpha.ServerReflection/ServerReflectionInfo") target

-- a space or a tab
abbrev pub IsBlank : ℕ → Type 0
IsBlank byte = (byte ≡ 32) ⊎ (byte ≡ 9)

-- blanks, and then nothing or parameters
abbrev pub IsBehindType : List ℕ → Type 0
IsBehindType text =
    (blanks parameters : List ℕ) × (text ≡ blanks ++ parameters) × All IsBlank blanks × IsEmptyOrBegins 59 parameters

-- a content type of this media type, in letters of any case
abbrev pub IsOfType : List ℕ → List ℕ → Type 0
IsOfType media text = (name behind : List ℕ) × (text ≡ name ++ behind)
    × (map to_ascii_lowercase name ≡ map to_ascii_lowercase media) × IsBehindType behind

-- a content type of gRPC-Web in binary frames
abbrev pub IsGrpcWeb : List ℕ → Type 0
IsGrpcWeb text = IsOfType (codes "application/grpc-web") text ⊎ IsOfType (codes "application/grpc-web+proto") text

abbrev pub IsGrpcWebIfAny : Option (List ℕ) → Type 0
IsGrpcWebIfAny None = ⊥
IsGrpcWebIfAny (Some text) = IsGrpcWeb text

pub record RequestOverHttp : Type 0 where
  pub method : List ℕ
  pub target : List ℕ
  pub content_type : Option (List ℕ)
  pub body : List ℕ

pub record AnswerOverHttp : Type 0 where
  pub status : ℕ
  pub headers : List (List ℕ × List ℕ)
  pub body : List ℕ

-- a response in frames
abbrev pub framed : List ℕ → AnswerOverHttp
framed body =
    record { status = 200; headers = (codes "content-type", codes "application/grpc-web+proto") ∷ []; body = body }

-- trailers of the status 12, UNIMPLEMENTED, alone
abbrev pub no_such_service : AnswerOverHttp
no_such_service = framed (frame 128 (trailer 12))

abbrev pub method_not_allowed : AnswerOverHttp
method_not_allowed = record { status = 405; headers = (codes "allow", codes "POST") ∷ []; body = [] }

abbrev pub unsupported_media_type : AnswerOverHttp
unsupported_media_type = record { status = 415; headers = []; body = [] }

-- the answer to a request: its path is judged first, then its method, then its content type
pub data IsAnswerOverHttp (mode : Mode) (c : Compilation) (request : RequestOverHttp) : AnswerOverHttp → Type 0 where
  elsewhere : (IsReflection request.target → ⊥) → IsAnswerOverHttp mode c request no_such_service
  no_post : IsReflection request.target → request.method ≢ codes "POST"
      → IsAnswerOverHttp mode c request method_not_allowed
  no_grpc_web : IsReflection request.target → request.method ≡ codes "POST" → (IsGrpcWebIfAny request.content_type → ⊥)
      → IsAnswerOverHttp mode c request unsupported_media_type
  answered : (response : List ℕ) → IsReflection request.target → request.method ≡ codes "POST"
      → IsGrpcWebIfAny request.content_type → IsResponse mode c request.body response
      → IsAnswerOverHttp mode c request (framed response)

-- an answer of the program
abbrev pub answer_over_http : HttpAnswer → AnswerOverHttp
answer_over_http answer = record {
  status = answer.status;
  headers =
      map (λ header. (header.0.now, header.1.now)) answer.headers.items;
  body = answer.body.items;
}
