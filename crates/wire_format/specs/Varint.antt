-- Base 128 varints.
use Rattle.std.specs.Prelude.{◌≡◌, ℕ, ◌+◌, ◌*◌, ◌/◌, ◌%◌, ◌<◌, ◌≤◌, List, [], ◌∷◌, if◌then◌else◌, nat_lt, zero, suc}

-- What bytes spell a number: seven bits a byte, the low ones first, 128 added to each byte but the last. Longer
-- spellings than needed count.
abbrev pub Spells : List ℕ → ℕ → Type 0
Spells [] n = ⊥
Spells (b ∷ []) n = (b < 128) × (n ≡ b)
Spells (b ∷ c ∷ bytes) n = (128 ≤ b) × (b < 256) × (high : ℕ) × (n + 128 ≡ b + 128 * high) × Spells (c ∷ bytes) high

-- the shortest spelling of a number that needs at most k + 1 bytes
unfoldable pub groups : ℕ → ℕ → List ℕ
groups zero n = n ∷ []
groups (suc k) n = if nat_lt n 128 then n ∷ [] else (n % 128 + 128) ∷ groups k (n / 128)

-- the shortest spelling of a number below 2 ^ 64
unfoldable pub varint_bytes : ℕ → List ℕ
varint_bytes n = groups 9 n
