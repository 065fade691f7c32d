-- Names in the order of their bytes.
use Rattle.std.specs.Prelude.{◌≡◌, ℕ, ◌+◌, ◌<◌, List, [], length, slice_index_or}
use Rattle.std.specs.Cmp.Lexicographic.{slice_cmp}
use Rattle.std.specs.Ordering.{nat_cmp}
use Rattle.std.specs.declared.cmp.Ordering.TheVariants.{Less}

-- each name comes before the next one, byte by byte
abbrev pub NamesRise : List (List ℕ) → Type 0
NamesRise names = (k : ℕ) → k + 1 < length names
    → slice_cmp nat_cmp (slice_index_or names k []) (slice_index_or names (k + 1) []) ≡ Less
