-- Sources in the order of their paths.
use Rattle.std.specs.Prelude.{◌≡◌, ℕ, ◌+◌, ◌<◌, List, [], length, map, slice_index_or, string_bytes}
use Rattle.std.specs.Cmp.Lexicographic.{slice_cmp}
use Rattle.std.specs.List.Sorted.{IsSortedByKey}
use Rattle.std.specs.Ordering.{nat_cmp}
use Rattle.source_folder.specs.declared.walk.ProtoEntry.{ProtoEntry}

abbrev pub path_of : ProtoEntry → List ℕ
path_of source = string_bytes source.path

abbrev pub paths_of : List ProtoEntry → List (List ℕ)
paths_of sources = map path_of sources

abbrev pub path_at : List ProtoEntry → ℕ → List ℕ
path_at sources k = slice_index_or (paths_of sources) k []

-- no path comes before the one ahead of it, byte by byte
abbrev pub AreInPathOrder : List ProtoEntry → Type 0
AreInPathOrder = IsSortedByKey path_of (slice_cmp nat_cmp)

-- two neighbours have the same path
abbrev pub HaveTwins : List ProtoEntry → Type 0
HaveTwins sources = (k : ℕ) × (k + 1 < length sources) × (path_at sources k ≡ path_at sources (k + 1))
