-- Rows of bits. A row has a number of words, and bit k of word w stands in column 64 w + k.
use Rattle.std.specs.Prelude.{ℕ, ◌+◌, ◌*◌, ◌/◌, ◌%◌, List, slice_index_or, Bool, ◌==◌}
use Rattle.std.specs.Int.{bit_at}

pub record Bits : Type 0 where
  pub rows : ℕ
  pub width : ℕ
  pub words : List ℕ

abbrev pub word_of : Bits → ℕ → ℕ → ℕ
word_of bits row word = slice_index_or bits.words (row * bits.width + word) 0

abbrev pub has : Bits → ℕ → ℕ → Bool
has bits row column = bit_at (word_of bits row (column / 64)) (column % 64) == 1
