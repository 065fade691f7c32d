use Rattle.std.proofs.Common.{◌≡◌, ℕ, ◌<◌, bit_and}
use Rattle.bit_matrix.specs.Bits.{word_of}
use Rattle.bit_matrix.proofs.matrix.BitMatrix.meets.Given as goal

abbrev pub invariant-loop-word : goal.invariant-loop-word
invariant-loop-word l = (k : ℕ) → k < l.word → bit_and (word_of l.self l.row k) (word_of l.other l.other_row k) ≡ 0
