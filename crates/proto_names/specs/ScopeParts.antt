-- Words of private contracts: the last parts of the names of scopes, and what stands before them, as a row of bits.
use Rattle.std.specs.Prelude.{◌≡◌, ◌≢◌, ◌⊎◌, ℕ, ◌+◌, ◌*◌, List, [], ◌∷◌, ◌++◌, Bool, All, Contains, IsTrue}
use Rattle.bit_matrix.specs.Bits.{Bits, has}
use Rattle.proto_names.specs.Hashes.{hash_of, rolling_hash, slot_of, spread}
use Rattle.proto_names.specs.Occurrences.{Occurrence}
use Rattle.proto_names.specs.Resolution.{is_scope}

abbrev pub HasNoDot : List ℕ → Type 0
HasNoDot part = All (λ b. b ≢ 46) part

-- a name is its last part behind a text that is empty or ends in a dot
pub record IsParted (name before part : List ℕ) : Type 0 where
  pub whole : name ≡ before ++ part
  pub last : HasNoDot part
  pub dotted : (before ≡ []) ⊎ ((scope : List ℕ) × (before ≡ scope ++ 46 ∷ []))

-- the column for the hash of a part, behind a text of a rolling hash: each slot of parts has one for each of 64 slots of
-- such texts
unfoldable pub column_of : ℕ → ℕ → ℕ → ℕ
column_of slots part before = slot_of slots part * 64 + slot_of 64 (spread before)

-- whether the bit of a part behind a text is set
unfoldable pub tells_part : Bits → ℕ → List ℕ → List ℕ → Bool
tells_part bits slots before part = has bits 0 (column_of slots (hash_of part) (rolling_hash before))

-- of each scope among occurrences the last part is told, behind what stands before it; others may be
abbrev pub TellsParts : List Occurrence → Bits → ℕ → Type 0
TellsParts os bits slots =
    (o : Occurrence) (before part : List ℕ) → Contains os o → IsTrue (is_scope o.kind) → IsParted o.name before part
    → IsTrue (tells_part bits slots before part)
