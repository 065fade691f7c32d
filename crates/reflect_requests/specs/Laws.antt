-- Words of the laws: that a body is read in one way.
use Rattle.std.specs.Prelude.{◌≡◌, ℕ, List}
use Rattle.proto_base.specs.declared.limits.Limits.{Limits}
use Rattle.reflect_requests.specs.Frames.{IsFrames, ReadsBody}

-- a body has one row of frames and one rest
abbrev pub HasOneRow : Limits → Type 0
HasOneRow limits = (body : List ℕ) (ms ns : List (List ℕ)) (a b : List ℕ) → IsFrames limits body ms a
    → IsFrames limits body ns b → (ms ≡ ns) × (a ≡ b)

-- a body has one list of messages and one status
abbrev pub HasOneReading : Limits → Type 0
HasOneReading limits = (body : List ℕ) (ms ns : List (List ℕ)) (s t : ℕ) → ReadsBody limits body ms s
    → ReadsBody limits body ns t → (ms ≡ ns) × (s ≡ t)
