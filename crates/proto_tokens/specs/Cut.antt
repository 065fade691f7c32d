-- Texts that are cut into parts, one after the other.
use Rattle.std.specs.Prelude.{◌≡◌, ℕ, ◌+◌, List, [], ◌∷◌, drop}

-- From one place of the text up to another it is cut into these parts. IsPart says of what follows a place which part
-- stands there, and len how many bytes it has.
abbrev pub IsCutInto : {P : Type 0} → (List ℕ → P → Type 0) → (P → ℕ) → List ℕ → ℕ → List P → ℕ → Type 0
IsCutInto IsPart len s from [] to = from ≡ to
IsCutInto IsPart len s from (p ∷ ps) to = IsPart (drop from s) p × IsCutInto IsPart len s (from + len p) ps to
