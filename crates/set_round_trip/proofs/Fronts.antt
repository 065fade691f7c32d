-- Fields that are written, read where they stand in front of others. What is read tells that they fit.
use Rattle.std.proofs.Common.{◌≡◌, ◌∙◌, sym, ap, subst, refl, ℕ, zero, suc, ◌+◌, ◌*◌, ◌/◌, ◌%◌, ◌<◌, ◌≤◌, inl, inr, List, [], ◌∷◌, ◌++◌, length, take, drop, map, flat_map, filter_map, Option, Some, arith, append_assoc, append-nil, length-append, take_at, drop_at}
use Rattle.std.proofs.lemmas.Bool.{cases_lt}
use Rattle.std.proofs.lemmas.Bool.Decides.{nat_tests}
use Rattle.std.specs.List.{cons_option}
use Rattle.wire_format.proofs.ReadingRows.{one_list, row_none}
use Rattle.wire_format.specs.Field.{bytes_field, number_field}
use Rattle.wire_format.specs.Reading.{Body, IsBody, IsRow, IsVarint, Value, bytes, body_text, delimited, eight_bytes, entry_by, entry_of, four_bytes, number, text_of, varint_body, wire_type}
use Rattle.wire_format.specs.Varint.{Spells, groups, varint_bytes}

-- ---- a varint in front

groups_small : (k n : ℕ) → n < 128 → groups k n ≡ n ∷ []
unfolding groups
groups_small k n h = grind (arith, nat_tests)

groups_large : (k n : ℕ) → 128 ≤ n → groups (suc k) n ≡ (n % 128 + 128) ∷ groups k (n / 128)
unfolding groups
groups_large k n h = grind (arith, nat_tests)

groups_last : (n : ℕ) → groups zero n ≡ n ∷ []
unfolding groups
groups_last n = refl

groups_some : (k n : ℕ) → 0 < length (groups k n)
groups_some zero n = rw (groups_last n) (omega arith)
groups_some (suc k) n = elim (cases_lt n 128) [
  | inl small ↦ rw (groups_small (suc k) n small) (omega arith)
  | inr large ↦ rw (groups_large k n large) (omega arith)
]

pub varint_some : (n : ℕ) → 0 < length (varint_bytes n)
unfolding varint_bytes
varint_some n = groups_some 9 n

-- one byte
front_byte : (v m : ℕ) (rest prefix tail : List ℕ) → (v < 128) → Spells prefix m → v ∷ rest ≡ prefix ++ tail
    → (m ≡ v) × (rest ≡ tail)
front_byte v m rest [] tail small spelled same = absurd spelled
front_byte v m rest (b ∷ []) tail small spelled same =
    let head : v ≡ b = cc in
    let more : rest ≡ tail = cc in
    (spelled.1 ∙ sym head, more)
front_byte v m rest (b ∷ c ∷ bs) tail small spelled same =
    let head : v ≡ b = cc in absurd (omega (arith, head, small, spelled.0))

-- the last group of many, whatever it is: the spelling that is read has no room for more
front_last : (v m : ℕ) (rest prefix tail : List ℕ) → length prefix ≤ 1 → Spells prefix m → v ∷ rest ≡ prefix ++ tail
    → (m ≡ v) × (rest ≡ tail)
front_last v m rest [] tail short spelled same = absurd spelled
front_last v m rest (b ∷ []) tail short spelled same =
    let head : v ≡ b = cc in
    let more : rest ≡ tail = cc in
    (spelled.1 ∙ sym head, more)
front_last v m rest (b ∷ c ∷ bs) tail short spelled same = absurd (omega (arith, short))

-- one byte of more
front_more : (k v m : ℕ) (rest prefix tail : List ℕ) → 128 ≤ v → length prefix ≤ suc (suc k) → Spells prefix m
    → (v % 128 + 128) ∷ (groups k (v / 128) ++ rest) ≡ prefix ++ tail
    → ((high : ℕ) (others : List ℕ) → length others ≤ suc k → Spells others high
    → groups k (v / 128) ++ rest ≡ others ++ tail → (high ≡ v / 128) × (rest ≡ tail))
    → (m ≡ v) × (rest ≡ tail)
front_more k v m rest [] tail large short spelled same next = absurd spelled
front_more k v m rest (b ∷ []) tail large short spelled same next =
    let head : v % 128 + 128 ≡ b = cc in absurd (omega (arith, head, spelled.0))
front_more k v m rest (b ∷ c ∷ bs) tail large short (low, byte, high, split, more) same next =
    let head : v % 128 + 128 ≡ b = cc in
    let others : groups k (v / 128) ++ rest ≡ (c ∷ bs) ++ tail = cc in
    let (is, end) = next high (c ∷ bs) (omega (arith, short)) more others in
    (omega (arith, head, is, split), end)

front_groups : (k v m : ℕ) (rest prefix tail : List ℕ) → length prefix ≤ suc k → Spells prefix m
    → groups k v ++ rest ≡ prefix ++ tail → (m ≡ v) × (rest ≡ tail)
front_groups zero v m rest prefix tail short spelled same =
    front_last v m rest prefix tail (omega (arith, short)) spelled
    (ap (λ (g : List ℕ). g ++ rest) (sym (groups_last v)) ∙ same)
front_groups (suc k) v m rest prefix tail short spelled same = elim (cases_lt v 128) [
  | inl small ↦ front_byte v m rest prefix tail small spelled
      (ap (λ (g : List ℕ). g ++ rest) (sym (groups_small (suc k) v small)) ∙ same)
  | inr large ↦ front_more k v m rest prefix tail large short spelled
      (ap (λ (g : List ℕ). g ++ rest) (sym (groups_large k v large)) ∙ same)
      (λ high others fits more rest_is. front_groups k (v / 128) high rest others tail fits more rest_is)
]

front_varint : (v m : ℕ) (rest prefix tail : List ℕ) → IsVarint prefix m → varint_bytes v ++ rest ≡ prefix ++ tail
    → (m ≡ v) × (rest ≡ tail)
unfolding varint_bytes
front_varint v m rest prefix tail is same =
    front_groups 9 v m rest prefix tail (omega (arith, is.short)) is.spelled same

-- ---- a field in front

number_behind : (n v k : ℕ) (rest : List ℕ) (body : Body) (tail : List ℕ) → IsBody body
    → k * 8 + wire_type body ≡ n * 8 → varint_bytes v ++ rest ≡ body_text body ++ tail
    → (entry_by k body ≡ Some (n, number v)) × (rest ≡ tail)
number_behind n v k rest (varint_body text value) tail is_body at next =
    let (value_is, end) = front_varint v value rest text tail is_body next in
    let number_is : k ≡ n = omega (arith, at) in
    (rw (number_is, value_is) refl, end)
number_behind n v k rest (eight_bytes text) tail is_body at next = absurd (omega (arith, at))
number_behind n v k rest (delimited size contents) tail is_body at next = absurd (omega (arith, at))
number_behind n v k rest (four_bytes text) tail is_body at next = absurd (omega (arith, at))

number_front : (n v : ℕ) (rest : List ℕ) (k : ℕ) (tag : List ℕ) (body : Body) (tail : List ℕ)
    → IsVarint tag (k * 8 + wire_type body) → IsBody body
    → number_field n v ++ rest ≡ (tag ++ body_text body) ++ tail
    → (entry_by k body ≡ Some (n, number v)) × (rest ≡ tail)
number_front n v rest k tag body tail is_tag is_body same =
    let flat : varint_bytes (n * 8) ++ (varint_bytes v ++ rest) ≡ tag ++ (body_text body ++ tail) =
    sym (append_assoc (varint_bytes (n * 8)) (varint_bytes v) rest) ∙ same
    ∙ append_assoc tag (body_text body) tail in
    let (at, next) = front_varint (n * 8) (k * 8 + wire_type body) (varint_bytes v ++ rest) tag
    (body_text body ++ tail) is_tag flat in
    number_behind n v k rest body tail is_body at next

-- parts of one length
same_parts : (xs ys rest tail : List ℕ) → length ys ≡ length xs → xs ++ rest ≡ ys ++ tail → (ys ≡ xs) × (rest ≡ tail)
same_parts xs ys rest tail long same =
    let n = length xs in (
      sym (take_at ys tail n long) ∙ ap (take n) (sym same) ∙ take_at xs rest n refl,
      sym (drop_at xs rest n refl) ∙ ap (drop n) same ∙ drop_at ys tail n long,
    )

bytes_behind : (n : ℕ) (text : List ℕ) (k : ℕ) (rest : List ℕ) (body : Body) (tail : List ℕ) → IsBody body
    → k * 8 + wire_type body ≡ n * 8 + 2
    → varint_bytes (length text) ++ (text ++ rest) ≡ body_text body ++ tail
    → (entry_by k body ≡ Some (n, bytes text)) × (rest ≡ tail)
bytes_behind n text k rest (delimited size contents) tail is_body at next =
    let (long, both) = front_varint (length text) (length contents) (text ++ rest) size (contents ++ tail)
    is_body (next ∙ append_assoc size contents tail) in
    let (text_is, end) = same_parts text contents rest tail long both in
    let number_is : k ≡ n = omega (arith, at) in
    (rw (number_is, text_is) refl, end)
bytes_behind n text k rest (varint_body t value) tail is_body at next = absurd (omega (arith, at))
bytes_behind n text k rest (eight_bytes t) tail is_body at next = absurd (omega (arith, at))
bytes_behind n text k rest (four_bytes t) tail is_body at next = absurd (omega (arith, at))

-- the tag, the length and the bytes of a field, one after the other
bytes_parts : (n : ℕ) (text rest : List ℕ) → bytes_field n text ++ rest
    ≡ varint_bytes (n * 8 + 2) ++ (varint_bytes (length text) ++ (text ++ rest))
bytes_parts n text rest = simp append_assoc refl

bytes_front : (n : ℕ) (text rest : List ℕ) (k : ℕ) (tag : List ℕ) (body : Body) (tail : List ℕ)
    → IsVarint tag (k * 8 + wire_type body) → IsBody body
    → bytes_field n text ++ rest ≡ (tag ++ body_text body) ++ tail
    → (entry_by k body ≡ Some (n, bytes text)) × (rest ≡ tail)
bytes_front n text rest k tag body tail is_tag is_body same =
    let (at, next) = front_varint (n * 8 + 2) (k * 8 + wire_type body)
    (varint_bytes (length text) ++ (text ++ rest)) tag (body_text body ++ tail) is_tag
    (sym (bytes_parts n text rest) ∙ same ∙ append_assoc tag (body_text body) tail) in
    bytes_behind n text k rest body tail is_body at next

-- ---- bytes that are read as fields, wherever they stand in front

pub record IsReadAs (text : List ℕ) (written : List (ℕ × Value)) : Type 0 where
  pub front : (rest : List ℕ) (fs : List (ℕ × Value)) → IsRow (text ++ rest) fs
      → (more : List (ℕ × Value)) × IsRow rest more × (fs ≡ written ++ more)

nothing_left : (tag more : List ℕ) → 0 < length tag → tag ++ more ≡ [] → ⊥
nothing_left tag more some same = omega (arith, some, ap length same, length-append tag more)

number_row : (n v : ℕ) (rest : List ℕ) (fs : List (ℕ × Value)) → IsRow (number_field n v ++ rest) fs
    → (more : List (ℕ × Value)) × IsRow rest more × (fs ≡ (n, number v) ∷ more)
number_row n v rest fs ([], ok, split, is) =
    absurd (nothing_left (varint_bytes (n * 8)) (varint_bytes v ++ rest) (varint_some (n * 8))
    (sym (append_assoc (varint_bytes (n * 8)) (varint_bytes v) rest) ∙ split))
number_row n v rest fs (s ∷ row, ok, split, is) =
    let (entry, tail) = number_front n v rest s.number s.tag s.body (flat_map text_of row) ok.0.tag ok.0.body split in (
      filter_map entry_of row,
      (row, ok.1, tail, refl),
      is ∙ ap (λ (e : Option (ℕ × Value)). cons_option e (filter_map entry_of row)) entry,
    )

bytes_row : (n : ℕ) (text rest : List ℕ) (fs : List (ℕ × Value)) → IsRow (bytes_field n text ++ rest) fs
    → (more : List (ℕ × Value)) × IsRow rest more × (fs ≡ (n, bytes text) ∷ more)
bytes_row n text rest fs ([], ok, split, is) = absurd (nothing_left (varint_bytes (n * 8 + 2))
    (varint_bytes (length text) ++ (text ++ rest)) (varint_some (n * 8 + 2)) (sym (bytes_parts n text rest) ∙ split))
bytes_row n text rest fs (s ∷ row, ok, split, is) =
    let behind = flat_map text_of row in
    let (entry, tail) = bytes_front n text rest s.number s.tag s.body behind ok.0.tag ok.0.body split in (
      filter_map entry_of row,
      (row, ok.1, tail, refl),
      is ∙ ap (λ (e : Option (ℕ × Value)). cons_option e (filter_map entry_of row)) entry,
    )

pub read_number : (n v : ℕ) → IsReadAs (number_field n v) ((n, number v) ∷ [])
read_number n v = record { front = number_row n v }

pub read_bytes : (n : ℕ) (text : List ℕ) → IsReadAs (bytes_field n text) ((n, bytes text) ∷ [])
read_bytes n text = record { front = bytes_row n text }

pub read_none : IsReadAs [] []
read_none = record { front = λ rest fs row. (fs, row, refl) }

pub read_both : {text others : List ℕ} {written more : List (ℕ × Value)} → IsReadAs text written
    → IsReadAs others more → IsReadAs (text ++ others) (written ++ more)
read_both {text = text} {others = others} {written = written} {more = more} first second = record {
  front = λ rest fs row. (
      let (left, row_left, is) = first.front (others ++ rest) fs (subst (λ t. IsRow t fs)
      (append_assoc text others rest) row) in
      let (last, row_last, then) = second.front rest left row_left in
      (last, row_last, is ∙ ap (λ (xs : List (ℕ × Value)). written ++ xs) then ∙ sym (append_assoc written more last)));
}

-- a field of bytes for each of some
abbrev pub entry : {X : Type 0} → ℕ → (X → List ℕ) → X → ℕ × Value
entry n f x = (n, bytes (f x))

pub read_each : {X : Type 0} (n : ℕ) (f : X → List ℕ) (xs : List X)
    → IsReadAs (flat_map (λ x. bytes_field n (f x)) xs) (map (entry n f) xs)
read_each n f [] = read_none
read_each n f (x ∷ xs) = read_both (read_bytes n (f x)) (read_each n f xs)

-- all of the bytes are read so
pub read_all : {text : List ℕ} {written fs : List (ℕ × Value)} → IsReadAs text written → IsRow text fs → fs ≡ written
read_all {text = text} {written = written} {fs = fs} is row =
    let (more, none, same) = is.front [] fs (subst (λ t. IsRow t fs) (sym (append-nil text)) row) in
    same ∙ ap (λ (xs : List (ℕ × Value)). written ++ xs) (one_list [] more [] none row_none) ∙ append-nil written
