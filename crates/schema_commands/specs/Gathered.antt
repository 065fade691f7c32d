-- Words of private contracts: bytes that are put together before they are written.
use Rattle.std.specs.Prelude.{◌≡◌, ℕ, List, ◌++◌, Result, Ok, Err}
use Rattle.std.specs.Io.KnownBytes.{Appends}
use Rattle.counted_io.specs.Streams.{Writes}
use Rattle.schema_commands.specs.Runs.{IsOutput}
use Rattle.schema_failure.specs.declared.failure.Failure.{Failure}

-- all of these bytes were taken, and no call failed
pub record IsTaken (old now : Writes) (bytes : List ℕ) : Type 0 where
  pub taken : now.bytes ≡ old.bytes ++ bytes
  pub failures : now.failures ≡ old.failures
  pub contents : Appends old.contents now.contents bytes

-- bytes go behind those that wait: some of all were taken, and the rest waits; or a call failed
abbrev pub IsGathered : {B : Type 0} → Writes → Writes → List ℕ → List ℕ → List ℕ → Result B Failure → Type 0
IsGathered old new waiting waiting' bytes (Ok b) =
    (taken : List ℕ) × IsTaken old new taken × (taken ++ waiting' ≡ waiting ++ bytes)
IsGathered old new waiting waiting' bytes (Err f) = IsOutput {B = Unit {0}} old new (waiting ++ bytes) (Err f)
