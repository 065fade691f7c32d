-- Rows that are joined, and rows that meet.
use Rattle.std.proofs.Common.{◌≡◌, ap, ℕ, ◌+◌, ◌*◌, ◌/◌, ◌%◌, ◌^◌, ◌<◌, ◌≤◌, ◌⊎◌, List, arith, w64, bit_and, bit_or}
use Rattle.std.specs.Prelude.{◌↔◌}
use Rattle.std.specs.Int.{bit_at, trailing_zeros}
use Rattle.std.proofs.lemmas.Nat.{row_fits, and_le_l}
use Rattle.std.proofs.lemmas.Nat.Bits.{bit_at_and, bit_at_or, bit_at-lt, bit_at-zero, bit_at-trailing_zeros}
use Rattle.bit_matrix.specs.Bits.{Bits, word_of}
use Rattle.bit_matrix.specs.Changes.{HasJoined, Meet, columns_of}
use Rattle.bit_matrix.specs.Words.{AreJoined, AreSameOrApart}
use Rattle.bit_matrix.proofs.Words.{bit_of, has_is}

-- ---- rows apart

-- a row ends before the next one begins
behind : (width r row : ℕ) → r < row → r * width + width ≤ row * width
behind width r row less = row_fits r width row width less (omega arith)

pub rows_apart : (width row other : ℕ) → AreSameOrApart (row * width) (other * width) width
rows_apart width row other = grind (arith, behind)

outside : (width r row k : ℕ) → k < width → (r ≡ row → ⊥)
    → (r * width + k < row * width) ⊎ (row * width + width ≤ r * width + k)
outside width r row k small other = grind (arith, behind)

-- ---- rows that are joined

module _ (old : Bits) (row other : ℕ) (words : List ℕ)
    (are : AreJoined old.words (row * old.width) (other * old.width) old.width words) where
  abbrev pub joined_bits : Bits
  joined_bits = record { rows = old.rows; width = old.width; words = words }

  bit_joined : (c : ℕ) → c < columns_of old
      → bit_of joined_bits row c ≡ bit_at (bit_or (word_of old row (c / 64)) (word_of old other (c / 64))) (c % 64)
  bit_joined c hc = ap (λ x. bit_at x (c % 64)) (are.joined (c / 64) (omega (arith, hc)))

  bits_joined : (c : ℕ) → c < columns_of old
      → (bit_of joined_bits row c ≡ 1) ↔ ((bit_of old row c ≡ 1) ⊎ (bit_of old other c ≡ 1))
  bits_joined c hc = grind (arith, bit_at_or, bit_at-lt, bit_joined)

  pub joined : HasJoined old row other joined_bits
  joined = grind (arith, outside, bits_joined, has_is)

-- ---- rows that meet

module _ (first : Bits) (row : ℕ) (second : Bits) (other : ℕ) where
  pub meet_nowhere : (n : ℕ) → ((c : ℕ) → c < columns_of first → c < columns_of second → c / 64 < n)
      → ((k : ℕ) → k < n → bit_and (word_of first row k) (word_of second other k) ≡ 0) → Meet first row second other → ⊥
  meet_nowhere n every none (c, hc, hd, w, v) =
      grind (arith, bit_at_and, bit_at-zero (c % 64), none (c / 64) (every c hc hd), has_is)

  pub meet_here : (k : ℕ) → k < first.width → k < second.width → word_of first row k < 2 ^ 64
      → (bit_and (word_of first row k) (word_of second other k) ≡ 0 → ⊥) → Meet first row second other
  meet_here k hk hl fits some =
      let word : ℕ = bit_and (word_of first row k) (word_of second other k) in
      let low : word ≤ word_of first row k = and_le_l (word_of first row k) (word_of second other k) in
      let at = bit_at-trailing_zeros w64 word (omega (arith, some)) (omega (arith, low, fits)) in
      let bit : ℕ = trailing_zeros w64 word in
      let and = bit_at_and (word_of first row k) (word_of second other k) bit in
      let less = bit_at-lt (word_of first row k) bit in
      let small = bit_at-lt (word_of second other k) bit in
      let column : ℕ = 64 * k + bit in
      let here : column / 64 ≡ k = omega (arith, at.0) in
      let rest : column % 64 ≡ bit = omega (arith, at.0) in
      let both : (bit_at (word_of first row k) bit ≡ 1) × (bit_at (word_of second other k) bit ≡ 1) =
      grind (arith, at.1, and, less, small) in (
        column,
        omega (arith, at.0, hk),
        omega (arith, at.0, hl),
        (has_is first row column).1 (rw (here, rest) both.0),
        (has_is second other column).1 (rw (here, rest) both.1),
      )
