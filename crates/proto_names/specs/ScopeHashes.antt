-- Words of private contracts: the hashes that the names of scopes have, as a row of bits for slots of hashes.
use Rattle.std.specs.Prelude.{ℕ, List, Bool, ◌&&◌, Contains, IsTrue}
use Rattle.bit_matrix.specs.Bits.{Bits, has}
use Rattle.proto_names.specs.Hashes.{hash_of, slot_of, spread}
use Rattle.proto_names.specs.Occurrences.{Occurrence}
use Rattle.proto_names.specs.Resolution.{is_scope}

-- whether both bits for a hash are set, among so many slots: that of the hash, and that of the hash spread once more
unfoldable pub tells : Bits → ℕ → ℕ → Bool
tells bits slots hash = has bits 0 (slot_of slots hash) && has bits 0 (slot_of slots (spread hash))

-- the hash of each scope among occurrences is told; others may be
abbrev pub TellsScopes : List Occurrence → Bits → ℕ → Type 0
TellsScopes os bits slots =
    (o : Occurrence) → Contains os o → IsTrue (is_scope o.kind) → IsTrue (tells bits slots (hash_of o.name))
