-- What the searches for a byte and for the end of a block comment find.
use Rattle.proto_tokens.proofs.Common.{◌≡◌, ℕ, ◌+◌, true, List, [], ◌∷◌, Option, Some, None, length, get_or, arith, add-zero, MatchOption, unwrap_or, prefix_len, false_from_ne_true, not_from_false, not_from_true, get_or_past, prefix_len_is, is_in_line, HasNoClose, IsFirstClose}
use Rattle.memchr.specs.Find.{IsFirstByte, is_byte, FindsNeedle, OccursAt}

-- a byte that is no LF stands in a line
stays : (b : ℕ) → (is_byte 10 b ≡ true → ⊥) → is_in_line b ≡ true
stays b differs = not_from_false (is_byte 10 b) (false_from_ne_true (is_byte 10 b) differs)

-- a line ends at its first LF, or where the text ends
pub line_ends : (s : List ℕ) (r : Option ℕ) → IsFirstByte (is_byte 10) s r
    → unwrap_or r (length s) ≡ prefix_len is_in_line s
line_ends s None none = grind (arith, stays, prefix_len_is is_in_line s (length s) 0)
line_ends s (Some n) found = grind (arith, not_from_true, prefix_len_is, stays)

-- `*` and `/` behind it are the needle
close_occurs : (s : List ℕ) (i : ℕ) → get_or s i 0 ≡ 42 → get_or s (i + 1) 0 ≡ 47 → OccursAt s (42 ∷ 47 ∷ []) i
close_occurs s i star slash =
    record { fits = grind (arith, get_or_past); reads = λ j lt. grind (arith, add-zero) }

-- what a search for `*/` finds is its first place
pub close_found : (s : List ℕ) (r : Option ℕ) → FindsNeedle s (42 ∷ 47 ∷ []) 0 r
    → MatchOption r (HasNoClose s) (IsFirstClose s)
close_found s None none = λ i star slash. grind (arith, close_occurs s i star slash, none i)
close_found s (Some n) found = record {
  fits = omega (arith, found.1.fits);
  star = rw add-zero at (found.1.reads 0 (omega arith));
  slash = found.1.reads 1 (omega arith);
  first = λ i lt star slash. found.0.before i (omega arith) lt (close_occurs s i star slash);
}
