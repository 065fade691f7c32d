-- The response to a request body: the replies in the order of the requests, each as if it came after those before it,
-- and the trailer.
use Rattle.std.specs.Prelude.{◌≡◌, ℕ, List, [], ◌∷◌, ◌++◌, map, flat_map, codes, decimal, Option}
use Rattle.std.specs.List.{AllZip, zip}
use Rattle.first_reach.specs.Carried.{carried}
use Rattle.first_reach.specs.declared.mode.Mode.{Mode}
use Rattle.proto_compilation.specs.Compilation.{Compilation}
use Rattle.proto_links.specs.Linked.{reach_of}
use Rattle.reflect_core.specs.Answer.{IsAnswer, root_of}
use Rattle.reflect_core.specs.Reply.{Asked, reply}
use Rattle.reflect_requests.specs.Frames.{ReadsBody, frame}
use Rattle.reflect_requests.specs.Request.{Ask, ReadsRequest}

-- a message, read and answered
pub record IsAsked (c : Compilation) (message : List ℕ) (asked : Asked) : Type 0 where
  pub same : asked.message ≡ message
  pub ask : Ask
  pub reads : ReadsRequest message asked.host ask
  pub answered : IsAnswer c ask asked.answer

abbrev pub root : Asked → Option ℕ
root asked = root_of asked.answer

-- the reply to each request, with the files that it carries
abbrev pub replies_to : Compilation → List Asked → List (List ℕ) → List (List ℕ)
replies_to c asked carried = map (λ p. reply c p.0 p.1) (zip asked carried)

-- the replies to requests, one after another: a file goes with the first of them that reaches it
abbrev pub replies : Mode → Compilation → List Asked → List (List ℕ)
replies mode c asked = replies_to c asked (carried mode (reach_of c.links) (map root asked))

-- the trailers of a stream, as a header block
abbrev pub trailer : ℕ → List ℕ
trailer status = codes "grpc-status:" ++ decimal status ++ 13 ∷ 10 ∷ []

-- the response to a body
pub record IsResponse (mode : Mode) (c : Compilation) (body bytes : List ℕ) : Type 0 where
  pub messages : List (List ℕ)
  pub status : ℕ
  pub asked : List Asked
  pub read : ReadsBody c.limits body messages status
  pub requests : AllZip (IsAsked c) messages asked
  pub spelled : bytes ≡ flat_map (frame 0) (replies mode c asked) ++ frame 128 (trailer status)
