-- Words for the contracts of the private functions that read a file's head. They are no part of the definition.
use Rattle.std.specs.Prelude.{◌≡◌, ℕ, ◌<◌, ◌==◌, Bool, false, List, length, slice_index_or}
use Rattle.std.specs.List.{list_any}

-- each flag says whether its position is among some
abbrev pub AreFlags : List ℕ → List Bool → Type 0
AreFlags positions flags = (k : ℕ) → k < length flags → slice_index_or flags k false ≡ list_any (λ p. p == k) positions
