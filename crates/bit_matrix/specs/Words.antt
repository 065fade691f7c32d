-- Words of private contracts: words that are joined bit by bit.
use Rattle.std.specs.Prelude.{◌≡◌, ◌⊎◌, ℕ, ◌+◌, ◌<◌, ◌≤◌, List, length, slice_index_or, bit_or}

-- so many words from one place on, and as many from another one: the same, or none of both
abbrev pub AreSameOrApart : ℕ → ℕ → ℕ → Type 0
AreSameOrApart start others count = (start ≡ others) ⊎ ((start + count ≤ others) ⊎ (others + count ≤ start))

-- so many words from one place on have the bits of as many from another one, and the rest is as it was
pub record AreJoined (old : List ℕ) (start others count : ℕ) (new : List ℕ) : Type 0 where
  pub size : length new ≡ length old
  pub kept : (i : ℕ) → (i < start) ⊎ (start + count ≤ i) → slice_index_or new i 0 ≡ slice_index_or old i 0
  pub joined : (k : ℕ) → k < count
      → slice_index_or new (start + k) 0 ≡ bit_or (slice_index_or old (start + k) 0) (slice_index_or old (others + k) 0)
