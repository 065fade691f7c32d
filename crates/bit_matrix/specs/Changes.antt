-- What changes of rows of bits do.
use Rattle.std.specs.Prelude.{◌≡◌, ◌⊎◌, ◌↔◌, ℕ, ◌+◌, ◌*◌, ◌<◌, IsTrue}
use Rattle.bit_matrix.specs.Bits.{Bits, has}

abbrev pub columns_of : Bits → ℕ
columns_of bits = 64 * bits.width

abbrev pub Has : Bits → ℕ → ℕ → Type 0
Has bits row column = IsTrue (has bits row column)

-- as many rows and columns
pub record IsAsLarge (old new : Bits) : Type 0 where
  pub rows : new.rows ≡ old.rows
  pub width : new.width ≡ old.width

-- one more row, of which no bit is set
pub record IsLonger (old new : Bits) : Type 0 where
  pub rows : new.rows ≡ old.rows + 1
  pub width : new.width ≡ old.width
  pub kept : (r c : ℕ) → r < old.rows → c < columns_of old → has new r c ≡ has old r c
  pub clear : (c : ℕ) → c < columns_of old → Has new old.rows c → ⊥

-- one more bit of a row
pub record HasInserted (old : Bits) (row column : ℕ) (new : Bits) : Type 0 where
  pub large : IsAsLarge old new
  pub kept : (r c : ℕ) → r < old.rows → c < columns_of old → (r ≡ row → ⊥) → has new r c ≡ has old r c
  pub bits : (c : ℕ) → c < columns_of old → Has new row c ↔ (Has old row c ⊎ (column ≡ c))

-- a row with the bits of another one
pub record HasJoined (old : Bits) (row other : ℕ) (new : Bits) : Type 0 where
  pub large : IsAsLarge old new
  pub kept : (r c : ℕ) → r < old.rows → c < columns_of old → (r ≡ row → ⊥) → has new r c ≡ has old r c
  pub bits : (c : ℕ) → c < columns_of old → Has new row c ↔ (Has old row c ⊎ Has old other c)

-- a column in which both rows have a bit
abbrev pub Meet : Bits → ℕ → Bits → ℕ → Type 0
Meet first row second other =
    (c : ℕ) × (c < columns_of first) × (c < columns_of second) × Has first row c × Has second other c
