-- Frames of a request body, by gRPC's PROTOCOL-WEB.md.
use Rattle.std.specs.Prelude.{◌≡◌, ℕ, ◌<◌, ◌≤◌, ◌==◌, not, nat_lt, List, [], ◌∷◌, ◌++◌, length, take, drop, All, if◌then◌else◌}
use Rattle.std.specs.List.{flat_map}
use Rattle.std.specs.Int.{w32, to_be_bytes, from_be_bytes}
use Rattle.proto_base.specs.Limits.{limit_of}
use Rattle.proto_base.specs.declared.limits.Limits.{Limits}
use Rattle.proto_base.specs.declared.limits.Limit.TheVariants.{BodyBytes, MessageBytes, Requests}
use Rattle.reflect_requests.specs.Request.{IsRequest}

-- a frame: its flag, four bytes of length with the high byte first, its message
abbrev pub frame : ℕ → List ℕ → List ℕ
frame flag message = flag ∷ (to_be_bytes w32 (length message) ++ message)

-- a message that counts as a request
pub record IsAllowed (limits : Limits) (message : List ℕ) : Type 0 where
  pub short : length message ≤ limit_of limits MessageBytes
  pub request : IsRequest message

-- the body is the longest row of frames of allowed messages, at most as many as the limit, followed by the rest
pub record IsFrames (limits : Limits) (body : List ℕ) (messages : List (List ℕ)) (rest : List ℕ) : Type 0 where
  pub row : body ≡ flat_map (frame 0) messages ++ rest
  pub allowed : All (IsAllowed limits) messages
  pub few : length messages ≤ limit_of limits Requests
  pub longest : length messages < limit_of limits Requests → (message after : List ℕ) → IsAllowed limits message
      → rest ≡ frame 0 message ++ after → ⊥

-- Behind a flag of 0: fewer than four bytes of length are a cut frame, a length over the limit is too much, a message
-- of fewer bytes than its length is cut. What is left is a message that is no request.
abbrev pub status_of_size : Limits → List ℕ → ℕ
status_of_size limits more =
    if nat_lt (length more) 4 then 13
    else if nat_lt (limit_of limits MessageBytes) (from_be_bytes w32 (take 4 more)) then 8
    else if nat_lt (length (drop 4 more)) (from_be_bytes w32 (take 4 more)) then 13
    else 3

-- The status of a body, by its rest and the number of frames before it: no rest is the end, a frame beyond the limit is
-- too much, a flag of 1 says compressed, and no other flag but 0 is known.
abbrev pub status_of : Limits → ℕ → List ℕ → ℕ
status_of limits count [] = 0
status_of limits count (flag ∷ more) =
    if not (nat_lt count (limit_of limits Requests)) then 8
    else if flag == 1 then 12
    else if not (flag == 0) then 13
    else status_of_size limits more

-- the messages and the status of a body
pub record ReadsBody (limits : Limits) (body : List ℕ) (messages : List (List ℕ)) (status : ℕ) : Type 0 where
  pub over : limit_of limits BodyBytes < length body → (messages ≡ []) × (status ≡ 8)
  pub within : length body ≤ limit_of limits BodyBytes
      → (rest : List ℕ) × IsFrames limits body messages rest × (status ≡ status_of limits (length messages) rest)
