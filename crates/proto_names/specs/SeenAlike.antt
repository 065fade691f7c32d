-- Files that are seen: by a test, or alike.
use Rattle.std.specs.Prelude.{◌↔◌, ℕ, List, Bool, IsTrue, Contains}
use Rattle.proto_links.specs.Linked.{sees}
use Rattle.proto_names.specs.Occurrences.{Occurrence}

-- the same occurrences, as far as they are seen
abbrev pub AreSeenAlike : List Occurrence → (ℕ → Type 0) → List Occurrence → (ℕ → Type 0) → Type 0
AreSeenAlike os Seen ps Sees = (o : Occurrence) → (Contains os o × Seen o.file) ↔ (Contains ps o × Sees o.file)

-- the files of which a test is true
abbrev pub IsSeen : (ℕ → Bool) → ℕ → Type 0
IsSeen sees b = IsTrue (sees b)
