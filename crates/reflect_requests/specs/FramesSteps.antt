-- Words for the contracts of the private functions that read frames. They are no part of their definition.
use Rattle.std.specs.Prelude.{◌≡◌, ℕ, ◌<◌, ◌≤◌, List, ◌++◌, length}
use Rattle.proto_base.specs.Limits.{limit_of}
use Rattle.proto_base.specs.declared.limits.Limits.{Limits}
use Rattle.proto_base.specs.declared.limits.Limit.TheVariants.{MessageBytes, Requests}
use Rattle.reflect_requests.specs.declared.frames.NextFrame as rust
use Rattle.reflect_requests.specs.declared.frames.NextFrame.TheVariants.{Frame, End}
use Rattle.reflect_requests.specs.declared.frames.Status.{Status}
use Rattle.reflect_requests.specs.Frames.{IsAllowed, frame, status_of}
use Rattle.reflect_requests.specs.ProgramFrames.{Reads, status_number}

-- behind `count` frames what is left begins with a frame that isn't over a limit
pub record IsCut (limits : Limits) (count : ℕ) (rest message after : List ℕ) : Type 0 where
  pub row : rest ≡ frame 0 message ++ after
  pub short : length message ≤ limit_of limits MessageBytes
  pub room : count < limit_of limits Requests

-- behind `count` frames what is left begins with no frame of a request, and has this status
pub record IsEnd (limits : Limits) (count : ℕ) (rest : List ℕ) (status : Status) : Type 0 where
  pub status_is : status_number status ≡ status_of limits count rest
  pub none : count < limit_of limits Requests → (message after : List ℕ) → IsAllowed limits message
      → rest ≡ frame 0 message ++ after → ⊥

-- what stands at the front of what is left
abbrev pub IsNext : Limits → ℕ → List ℕ → rust.NextFrame → Type 0
IsNext limits count rest (Frame message after) =
    IsCut limits count rest message.bytes.now after.now × IsAllowed limits message.bytes.now × Reads message
IsNext limits count rest (End status) = IsEnd limits count rest status
