-- Bits of the words of rows.
use Rattle.std.proofs.Common.{◌≡◌, ℕ, ◌+◌, ◌*◌, ◌/◌, ◌%◌, ◌^◌, ◌<◌, ◌⊎◌, length, get_or, set, inl, inr, arith, w64, nat_eq, bit_and, bit_or}
use Rattle.std.specs.Prelude.{◌↔◌}
use Rattle.std.specs.Int.{bit_at}
use Rattle.std.proofs.lemmas.Bool.{cases_eq, eqb-true, eq-eqb}
use Rattle.std.proofs.lemmas.List.{get_or-set_same, get_or-set_other}
use Rattle.std.proofs.lemmas.Nat.{row_fits, same_from_place}
use Rattle.std.proofs.lemmas.Nat.Bits.{bit_at_set_same, bit_at_set_other, shr_and_one}
use Rattle.bit_matrix.specs.Bits.{Bits, has, word_of}
use Rattle.bit_matrix.specs.Changes.{Has, HasInserted, columns_of}

-- ---- a bit

abbrev pub bit_of : Bits → ℕ → ℕ → ℕ
bit_of bits r c = bit_at (word_of bits r (c / 64)) (c % 64)

pub has_is : (bits : Bits) (r c : ℕ) → Has bits r c ↔ (bit_of bits r c ≡ 1)
has_is bits r c = (eqb-true (bit_of bits r c) 1, eq-eqb (bit_of bits r c) 1)

pub tested : (bits : Bits) (r c word : ℕ) → word ≡ word_of bits r (c / 64)
    → nat_eq (bit_and (word / 2 ^ (c % 64)) 1) 1 ≡ has bits r c
tested bits r c word is = grind (arith, shr_and_one)

pub word_inside : (bits : Bits) → length bits.words ≡ bits.rows * bits.width → (r c : ℕ) → r < bits.rows
    → c < columns_of bits
    → r * bits.width + c / 64 < length bits.words
word_inside bits size r c hr hc = grind (arith, row_fits)

-- words of other rows, or of another column, stand elsewhere
elsewhere : (bits : Bits) (r c row column : ℕ) → c < columns_of bits → column < columns_of bits
    → ((r ≡ row) × (c / 64 ≡ column / 64) → ⊥)
    → (r * bits.width + c / 64 ≡ row * bits.width + column / 64) → ⊥
elsewhere bits r c row column hc hcolumn other same =
    other (same_from_place r (c / 64) row (column / 64) bits.width (omega (arith, hc)) (omega (arith, hcolumn)) same)

-- ---- a bit that is set

module _ (bits : Bits) (size : length bits.words ≡ bits.rows * bits.width) (row column : ℕ) (hrow : row < bits.rows)
    (hcolumn : column < columns_of bits) where
  abbrev pub place : ℕ
  place = row * bits.width + column / 64

  abbrev pub value : ℕ
  value = bit_or (get_or bits.words place 0) (1 * 2 ^ (column % 64) % 18446744073709551616)

  abbrev pub with_bit : Bits
  with_bit = record { rows = bits.rows; width = bits.width; words = set bits.words place value }

  other_word : (r c : ℕ) → c < columns_of bits → ((r ≡ row) × (c / 64 ≡ column / 64) → ⊥)
      → word_of with_bit r (c / 64) ≡ word_of bits r (c / 64)
  other_word r c hc other = grind (arith, get_or-set_other, elsewhere)

  same_word : (c : ℕ) → c / 64 ≡ column / 64 → word_of with_bit row (c / 64) ≡ value
  same_word c same = grind (arith, get_or-set_same, word_inside)

  bit_inserted : (c : ℕ) → c < columns_of bits → (bit_of with_bit row c ≡ 1) ↔ ((bit_of bits row c ≡ 1) ⊎ (column ≡ c))
  bit_inserted c hc =
      let word = get_or bits.words place 0 in
      let here = bit_at_set_same w64 word (column % 64) (omega arith) in
      let apart = bit_at_set_other w64 word (column % 64) (omega arith) (c % 64) in
      elim (cases_eq (c / 64) (column / 64)) [
        | inl same ↦ grind (arith, same_word c same, here, apart)
        | inr other ↦ grind (arith, other_word row c hc (λ w. other w.1))
      ]

  pub inserted : HasInserted bits row column with_bit
  inserted = grind (arith, other_word, bit_inserted, has_is)
