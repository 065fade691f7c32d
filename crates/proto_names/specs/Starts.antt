-- Words of private contracts: where each slot of hashes begins, among occurrences in the order of their names' hashes.
use Rattle.std.specs.Prelude.{◌≡◌, ◌≢◌, ℕ, ◌-◌, ◌<◌, ◌≤◌, List, length, slice_index_or}
use Rattle.proto_names.specs.Hashes.{hash_of, slot_of}
use Rattle.proto_names.specs.Occurrences.{Occurrence}
use Rattle.proto_names.specs.Runs.{at}

-- what stands before it has another name
abbrev pub BeginsName : List Occurrence → ℕ → Type 0
BeginsName os k = 0 < k → (at os (k - 1)).name ≢ (at os k).name

-- where the entries of a name begin
pub record IsStart (os : List Occurrence) (name : List ℕ) (start : ℕ) : Type 0 where
  pub within : start < length os
  pub named : (at os start).name ≡ name
  pub begins : BeginsName os start

abbrev pub IsNowhere : List Occurrence → List ℕ → Type 0
IsNowhere os name = (k : ℕ) → k < length os → (at os k).name ≢ name

-- the slot of what stands at a position
abbrev pub slot_at : List Occurrence → ℕ → ℕ → ℕ
slot_at os count k = slot_of count (hash_of (at os k).name)

-- where a slot begins: what stands before has a smaller slot, all else has none that is smaller
pub record BeginsSlot (os : List Occurrence) (count slot start : ℕ) : Type 0 where
  pub within : start ≤ length os
  pub before : (k : ℕ) → k < start → slot_at os count k < slot
  pub behind : (k : ℕ) → start ≤ k → k < length os → slot ≤ slot_at os count k

-- where each slot begins, and after the last one how many occurrences there are
pub record AreStarts (os : List Occurrence) (starts : List ℕ) : Type 0 where
  pub some : 1 < length starts
  pub few : length starts ≤ 4294967296
  pub each : (s : ℕ) → s < length starts → BeginsSlot os (length starts - 1) s (slice_index_or starts s 0)
