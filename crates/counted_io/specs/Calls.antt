-- What one call of a reader or a writer does.
use Rattle.std.specs.Prelude.{◌≡◌, ℕ, suc, ◌+◌, ◌<◌, ◌==◌, if◌then◌else◌, List, [], ◌∷◌, ◌++◌, length, take, None, Some, Result, MatchResult}
use Rattle.std.specs.Io.KnownBytes.{Appends, Consumes, IsAtEnd, Keeps}
use Rattle.counted_io.specs.Streams.{Reads, Writes}

-- a read that gave the first n bytes of a room, and none of some room only at the end; and one that failed
pub record IsGiven (old new : Reads) (room : List ℕ) (n : ℕ) : Type 0 where
  pub bytes : new.bytes ≡ old.bytes ++ take n room
  pub calls : new.calls ≡ old.calls ++ record { room = length room; given = Some n } ∷ []
  pub failures : new.failures ≡ old.failures
  pub left : Consumes old.left new.left (take n room)
  pub ended : n ≡ 0 → 0 < length room → IsAtEnd new.left

pub record IsNotGiven (old new : Reads) (room : List ℕ) : Type 0 where
  pub bytes : new.bytes ≡ old.bytes
  pub calls : new.calls ≡ old.calls ++ record { room = length room; given = None } ∷ []
  pub failures : new.failures ≡ suc old.failures
  pub left : Keeps old.left new.left

abbrev pub IsReadOnce : {E : Type 0} → (old new : Reads) → Result ℕ E → (room : List ℕ) → Type 0
IsReadOnce old new result room = MatchResult result (λ n. IsGiven old new room n) (λ _. IsNotGiven old new room)

-- a write that took the first n of some bytes, and has failed if that is none; and one that failed
pub record IsTaken (old new : Writes) (offered : List ℕ) (n : ℕ) : Type 0 where
  pub bytes : new.bytes ≡ old.bytes ++ take n offered
  pub unflushed : new.unflushed ≡ old.unflushed ++ take n offered
  pub failures : new.failures ≡ old.failures + (if n == 0 then 1 else 0)
  pub contents : Appends old.contents new.contents (take n offered)

pub record IsNotTaken (old new : Writes) : Type 0 where
  pub bytes : new.bytes ≡ old.bytes
  pub unflushed : new.unflushed ≡ old.unflushed
  pub failures : new.failures ≡ suc old.failures
  pub contents : Keeps old.contents new.contents

abbrev pub IsWrittenOnce : {E : Type 0} → (old new : Writes) → Result ℕ E → (offered : List ℕ) → Type 0
IsWrittenOnce old new result offered =
    MatchResult result (λ n. IsTaken old new offered n) (λ _. IsNotTaken old new)

-- a flush after which nothing is held back; one that failed is as a write that failed
pub record IsHandedOn (old new : Writes) : Type 0 where
  pub bytes : new.bytes ≡ old.bytes
  pub unflushed : new.unflushed ≡ []
  pub failures : new.failures ≡ old.failures
  pub contents : Keeps old.contents new.contents

abbrev pub IsFlushedOnce : {A E : Type 0} → (old new : Writes) → Result A E → Type 0
IsFlushedOnce old new result = MatchResult result (λ _. IsHandedOn old new) (λ _. IsNotTaken old new)
