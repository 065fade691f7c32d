-- Words of private contracts: runs of occurrences of one name.
use Rattle.std.specs.Prelude.{◌≡◌, ℕ, ◌<◌, ◌≤◌, List, [], None, Bool, MatchBool, slice_index_or}
use Rattle.proto_names.specs.Occurrences.{Occurrence, IsPackage}

-- what stands at a position where there is something
abbrev pub blank : Occurrence
blank = record { name = []; file = 0; place = record { offset = 0 }; kind = None }

abbrev pub at : List Occurrence → ℕ → Occurrence
at os k = slice_index_or os k blank

-- the run of the name that stands at k, among the first n: where it starts, and whether some of it is no package
pub record IsRun (os : List Occurrence) (k n start : ℕ) (has_element : Bool) : Type 0 where
  pub within : start ≤ n
  pub whole : (i : ℕ) → i < n → (at os i).name ≡ (at os k).name → start ≤ i
  pub same : (i : ℕ) → start ≤ i → i < n → (at os i).name ≡ (at os k).name
  pub element : MatchBool has_element
      ((i : ℕ) × (start ≤ i) × (i < n) × (IsPackage (at os i) → ⊥))
      ((i : ℕ) → start ≤ i → i < n → IsPackage (at os i))

-- something of the name of what stands at k stands before it, not both packages
abbrev pub Repeats : List Occurrence → ℕ → Type 0
Repeats os k =
    (i : ℕ) × (i < k) × ((at os i).name ≡ (at os k).name) × (IsPackage (at os i) → IsPackage (at os k) → ⊥)
