-- Words of private contracts: keys, by which occurrences are found and ordered. Occurrences stand in parts. A key is a
-- hash, below it the number of a part, and below that an index in it.
use Rattle.std.specs.Prelude.{◌≡◌, ℕ, ◌/◌, ◌%◌, ◌<◌, List, [], All, length, map, slice_index_or}
use Rattle.std.specs.declared.cmp.Ordering.{Ordering}
use Rattle.std.specs.Ordering.{nat_cmp, ordering_then}
use Rattle.proto_names.specs.Hashes.{hash_of}
use Rattle.proto_names.specs.Occurrences.{Occurrence}
use Rattle.proto_names.specs.Order.{end_cmp, place_cmp}
use Rattle.proto_names.specs.Runs.{at}

abbrev pub index_in : ℕ → ℕ
index_in key = key % 1048576

abbrev pub part_in : ℕ → ℕ
part_in key = key / 1048576 % 4096

abbrev pub hash_in : ℕ → ℕ
hash_in key = key / 4294967296

abbrev pub part_at : List (List Occurrence) → ℕ → List Occurrence
part_at parts k = slice_index_or parts k []

-- what a key finds in parts, and what keys find, one after the other
abbrev pub at_key : List (List Occurrence) → ℕ → Occurrence
at_key parts key = at (part_at parts (part_in key)) (index_in key)

abbrev pub found_by : List (List Occurrence) → List ℕ → List Occurrence
found_by parts keys = map (at_key parts) keys

-- the key finds something, whose name has the key's hash
pub record IsKeyAmong (parts : List (List Occurrence)) (key : ℕ) : Type 0 where
  pub part : part_in key < length parts
  pub index : index_in key < length (part_at parts (part_in key))
  pub hashed : hash_in key ≡ hash_of (at_key parts key).name

abbrev pub AreKeysAmong : List (List Occurrence) → List ℕ → Type 0
AreKeysAmong parts keys = All (IsKeyAmong parts) keys

-- the keys of these occurrences, in their order
pub record AreKeysOf (os : List Occurrence) (parts : List (List Occurrence)) (keys : List ℕ) : Type 0 where
  pub among : AreKeysAmong parts keys
  pub all : found_by parts keys ≡ os

-- the order of what keys find, by the hashes that they hold
abbrev pub key_cmp : List (List Occurrence) → ℕ → ℕ → Ordering
key_cmp parts a b =
    ordering_then (nat_cmp (hash_in a) (hash_in b))
    (ordering_then (end_cmp (at_key parts a).name (at_key parts b).name)
    (place_cmp (at_key parts a) (at_key parts b)))
