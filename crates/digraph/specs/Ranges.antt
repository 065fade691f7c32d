-- Lists that are kept as ranges of one list.
use Rattle.std.specs.Prelude.{◌≡◌, ℕ, ◌+◌, ◌≤◌, List, map, take, drop, length, slice_index_or}
use Rattle.std.specs.List.{AllByRecursion}

abbrev pub range_of : List ℕ → ℕ × ℕ → List ℕ
range_of items range = take range.1 (drop range.0 items)

abbrev pub ranges_of : List ℕ → List (ℕ × ℕ) → List (List ℕ)
ranges_of items ranges = map (range_of items) ranges

abbrev pub AreWithin : ℕ → List (ℕ × ℕ) → Type 0
AreWithin n ranges = AllByRecursion (λ range. range.0 + range.1 ≤ n) ranges

-- the list stands in the items from start on, to their end
abbrev pub Holds : List ℕ → ℕ → List ℕ → Type 0
Holds items start list = (drop start items ≡ list) × (start + length list ≡ length items)

-- the name of an item; one without a name stays as it is
abbrev pub name_of : List ℕ → ℕ → ℕ
name_of names item = slice_index_or names item item
