-- Hashes of names: the rolling hash of a name's bytes, spread.
use Rattle.std.specs.Prelude.{ℕ, ◌+◌, ◌*◌, ◌/◌, ◌%◌, List}
use Rattle.std.specs.List.{fold}

-- a rolling hash with a byte more
abbrev pub hash_step : ℕ → ℕ → ℕ
hash_step hash byte = (hash * 16777619 + byte) % 4294967296

abbrev pub rolling_hash : List ℕ → ℕ
rolling_hash name = fold hash_step 0 name

-- rolling hashes of names that differ in their last byte alone lie side by side, and spread ones far apart
unfoldable pub spread : ℕ → ℕ
spread hash = hash * 2654435769 % 4294967296

abbrev pub hash_of : List ℕ → ℕ
hash_of name = spread (rolling_hash name)

-- the slot of a hash, among so many: a larger hash has no smaller slot
abbrev pub slot_of : ℕ → ℕ → ℕ
slot_of count hash = hash * count / 4294967296
