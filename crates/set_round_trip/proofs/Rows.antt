-- Bytes that are written and fit are a row of their fields.
use Rattle.std.proofs.Common.{◌∙◌, sym, ap₂, subst, ℕ, ◌+◌, ◌*◌, ◌<◌, ◌≤◌, ◌^◌, List, [], ◌∷◌, ◌++◌, length, map, flat_map, arith, append-nil, length-append}
use Rattle.std.proofs.lemmas.List.Concat.{flat_map-append}
use Rattle.std.proofs.lemmas.List.Elements.{All-cons, All-nil, filter_map-append}
use Rattle.std.specs.List.{AllByRecursion}
use Rattle.wire_format.proofs.ReadingRows.{row_none, written_row}
use Rattle.wire_format.specs.Field.{bytes_field, number_field}
use Rattle.wire_format.specs.Reading.{IsRow, IsSpelled, Value, bytes, entry_of, number, text_of}
use Rattle.wire_format.specs.Varint.{varint_bytes}
use Rattle.wire_format.specs.Writing.{IsMessageField}
use Rattle.set_round_trip.proofs.Fronts.{entry}

-- what is held in a field is short
abbrev pub IsShortEntry : ℕ × Value → Type 0
IsShortEntry (n, number value) = Unit {0}
IsShortEntry (n, bytes text) = length text < 2 ^ 64

abbrev pub AreShort : List (ℕ × Value) → Type 0
AreShort fs = AllByRecursion IsShortEntry fs

-- short bytes are read as these fields
pub record IsWrittenAs (text : List ℕ) (fs : List (ℕ × Value)) : Type 0 where
  pub row : length text < 2 ^ 64 → IsRow text fs
  pub short : length text < 2 ^ 64 → AreShort fs

all_both : {X : Type 0} (P : X → Type 0) (xs ys : List X) → AllByRecursion P xs → AllByRecursion P ys
    → AllByRecursion P (xs ++ ys)
all_both P [] ys one other = other
all_both P (x ∷ xs) ys one other = (one.0, all_both P xs ys one.1 other)

row_both : (a b : List ℕ) (x y : List (ℕ × Value)) → IsRow a x → IsRow b y → IsRow (a ++ b) (x ++ y)
row_both a b x y (one, ok, text, is) (other, too, more, also) = (
  one ++ other,
  all_both IsSpelled one other ok too,
  ap₂ (λ (s t : List ℕ). s ++ t) text more ∙ sym (flat_map-append text_of one other),
  ap₂ (λ (s t : List (ℕ × Value)). s ++ t) is also ∙ sym (filter_map-append entry_of one other),
)

pub write_both : {a b : List ℕ} {x y : List (ℕ × Value)} → IsWrittenAs a x → IsWrittenAs b y
    → IsWrittenAs (a ++ b) (x ++ y)
write_both {a = a} {b = b} {x = x} {y = y} first second = record {
  row = λ few. row_both a b x y (first.row (omega (arith, few, length-append a b)))
      (second.row (omega (arith, few, length-append a b)));
  short = λ few. all_both IsShortEntry x y (first.short (omega (arith, few, length-append a b)))
      (second.short (omega (arith, few, length-append a b)));
}

pub write_none : IsWrittenAs [] []
write_none = record { row = λ few. row_none; short = λ few. tt }

pub write_number : (n v : ℕ) → 0 < n → n < 2 ^ 29 → v < 2 ^ 64 → IsWrittenAs (number_field n v) ((n, number v) ∷ [])
write_number n v positive small fits = record {
  row = λ few. subst (λ t. IsRow t ((n, number v) ∷ [])) (append-nil (number_field n v))
      (written_row ((n, number v) ∷ []) (All-cons IsMessageField (n, number v) []
      (record { positive = positive; small = small; fits = fits }) (All-nil IsMessageField)));
  short = λ few. (tt, tt);
}

shorter : (n : ℕ) (text : List ℕ) → length text ≤ length (bytes_field n text)
shorter n text = omega (arith, length-append (varint_bytes (n * 8 + 2) ++ varint_bytes (length text)) text)

pub write_bytes : (n : ℕ) (text : List ℕ) → 0 < n → n < 2 ^ 29 → IsWrittenAs (bytes_field n text) ((n, bytes text) ∷ [])
write_bytes n text positive small = record {
  row = λ few. (
      let fits : length text < 2 ^ 64 = omega (arith, few, shorter n text) in
      subst (λ t. IsRow t ((n, bytes text) ∷ [])) (append-nil (bytes_field n text))
      (written_row ((n, bytes text) ∷ []) (All-cons IsMessageField (n, bytes text) []
      (record { positive = positive; small = small; fits = fits }) (All-nil IsMessageField))));
  short = λ few. (omega (arith, few, shorter n text), tt);
}

pub write_each : {X : Type 0} (n : ℕ) (f : X → List ℕ) (xs : List X) → 0 < n → n < 2 ^ 29
    → IsWrittenAs (flat_map (λ x. bytes_field n (f x)) xs) (map (entry n f) xs)
write_each n f [] positive small = write_none
write_each n f (x ∷ xs) positive small =
    write_both (write_bytes n (f x) positive small) (write_each n f xs positive small)
