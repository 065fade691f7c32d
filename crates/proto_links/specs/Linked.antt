-- Files whose imports are found, by their positions in the list of files.
use Rattle.std.specs.Prelude.{◌≡◌, ◌⊎◌, ◌↔◌, ℕ, ◌+◌, ◌<◌, List, [], length, Bool, false, IsTrue, Contains, slice_index_or}
use Rattle.proto_desc.specs.declared.file.FileDesc.{FileDesc}
use Rattle.proto_links.specs.Imports.{Imports, Reaches, NoneBad}
use Rattle.proto_links.specs.Visible.{Sees}

-- the files in set order; and, file by file, its rank, what it reaches, and of each file whether it sees that one
pub record Linked : Type 0 where
  pub set_order : List ℕ
  pub ranks : List ℕ
  pub reach : List (List ℕ)
  pub seen : List (List Bool)

abbrev pub count_of : Linked → ℕ
count_of links = length links.ranks

abbrev pub rank_of : Linked → ℕ → ℕ
rank_of links a = slice_index_or links.ranks a 0

abbrev pub reach_of : Linked → ℕ → List ℕ
reach_of links a = slice_index_or links.reach a []

abbrev pub sees : Linked → ℕ → ℕ → Bool
sees links a b = slice_index_or (slice_index_or links.seen a []) b false

-- ---- what the links of files are

-- a file's rank is 0 where it imports nothing, else one more than the greatest rank that it imports
pub record AreRanks (files : List FileDesc) (rank : ℕ → ℕ) : Type 0 where
  pub above : (a b : ℕ) → Imports files a b → rank b < rank a
  pub least : (a : ℕ) → a < length files → (rank a ≡ 0) ⊎ ((b : ℕ) × Imports files a b × (rank a ≡ rank b + 1))

-- by rank, and by name where ranks are the same: the files stand in the order of their names
abbrev pub IsBefore : (ℕ → ℕ) → ℕ → ℕ → Type 0
IsBefore rank a b = (rank a < rank b) ⊎ ((rank a ≡ rank b) × (a < b))

-- each file of the list comes before the next one
abbrev pub IsInSetOrder : (ℕ → ℕ) → List ℕ → Type 0
IsInSetOrder rank xs = (k : ℕ) → k + 1 < length xs → IsBefore rank (slice_index_or xs k 0) (slice_index_or xs (k + 1) 0)

-- every file, in set order
pub record IsSetOrder (count : ℕ) (rank : ℕ → ℕ) (order : List ℕ) : Type 0 where
  pub rises : IsInSetOrder rank order
  pub every : (a : ℕ) → Contains order a ↔ (a < count)

-- the files that a file reaches, in set order
pub record IsReach (files : List FileDesc) (rank : ℕ → ℕ) (a : ℕ) (xs : List ℕ) : Type 0 where
  pub members : (c : ℕ) → Contains xs c ↔ Reaches files a c
  pub rises : IsInSetOrder rank xs

pub record AreLinked (files : List FileDesc) (links : Linked) : Type 0 where
  pub whole : NoneBad files
  pub count : count_of links ≡ length files
  pub ranks : AreRanks files (rank_of links)
  pub order : IsSetOrder (length files) (rank_of links) links.set_order
  pub reach : (a : ℕ) → a < length files → IsReach files (rank_of links) a (reach_of links a)
  pub sees : (a b : ℕ) → a < length files → b < length files → IsTrue (sees links a b) ↔ Sees files a b
