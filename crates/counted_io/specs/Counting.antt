-- What the logs of a counted reader or writer say.
use Rattle.std.specs.Prelude.{ℕ, List, map, Option}
use Rattle.counted_io.specs.Streams.{Call}

abbrev pub bytes_of : {A : Type 0} → List (ℕ × A) → List ℕ
bytes_of log = map (λ entry. entry.0) log

abbrev pub calls_of : List (ℕ × Option ℕ) → List Call
calls_of log = map (λ entry. record { room = entry.0; given = entry.1 }) log
