-- Rows of fields as they are read: what is read is spelled so, what is spelled so is read, and so is what is written.
use Rattle.std.proofs.Common.{◌≡◌, ℕ, zero, suc, ◌+◌, ◌-◌, ◌*◌, ◌^◌, ◌<◌, ◌≤◌, List, [], ◌∷◌, ◌++◌, length, get_or, refl, arith, cond, ◌⊎◌, inl, inr, ◌≢◌, ◌/◌, ◌%◌, append_assoc, ap, append-nil, Option, Some, Bool, true, false, nat_lt, None, option_and_then, flat_map, filter_map, All}
use Rattle.std.proofs.lemmas.Bool.{ltb-true, ltb-false, lt-ltb, le-ltb, ne_eqb, eqb-true, eqb-false}
use Rattle.std.proofs.lemmas.Option.{none-some, same_Some}
use Rattle.wire_format.specs.Varint.{Spells, varint_bytes}
use Rattle.wire_format.specs.ReadingSteps.{joined, varint_within, split_off, body_at, field_at}
use Rattle.wire_format.proofs.Varints.{spells_more, varint_spelled, varint_short}
use Rattle.std.proofs.lemmas.Grind.{common_steps}
use Rattle.std.proofs.lemmas.List.{take-append-drop, length-take-le, take_at, drop_at}
use Rattle.wire_format.specs.Reading.{Value, number, bytes, Body, varint_body, eight_bytes, four_bytes, delimited, Spelled, wire_type, body_text, IsBody, IsSpelled, text_of, entry_of, entry_by, IsRow}
use Rattle.std.specs.List.{AllByRecursion}
use Rattle.std.proofs.lemmas.List.Elements.{All-head, All-tail}
use Rattle.wire_format.specs.Writing.{IsMessageField, row_bytes}

abbrev pub IsBytes : List ℕ → Type 0
IsBytes bs = (i : ℕ) → get_or bs i 0 < 256

pub rest_bytes : (b : ℕ) (bs : List ℕ) → IsBytes (b ∷ bs) → IsBytes bs
rest_bytes b bs h i = h (suc i)

pub record Taken (k : ℕ) (text : List ℕ) (n : ℕ) (rest : List ℕ) : Type 0 where
  pub prefix : List ℕ
  pub spelled : Spells prefix n
  pub short : length prefix ≤ k
  pub fits : n < 2 ^ 64
  pub split : text ≡ prefix ++ rest

-- which way a choice went
pub chosen : {A : Type 0} (b : Bool) (x y : Option A) (z : A) → cond b x y ≡ Some z
    → ((b ≡ true) × (x ≡ Some z)) ⊎ ((b ≡ false) × (y ≡ Some z))
chosen b x y z e = grind arith

joined_some : (b : ℕ) (o : Option (ℕ × List ℕ)) (y : ℕ × List ℕ) → joined b o ≡ Some y
    → (x : ℕ × List ℕ) × (o ≡ Some x) × (b - 128 + 128 * x.0 < 2 ^ 64) × ((b - 128 + 128 * x.0, x.1) ≡ y)
joined_some b o y e = grind (arith, chosen, ltb-true, none-some)

pub varint_takes : (k : ℕ) (text : List ℕ) (y : ℕ × List ℕ) → IsBytes text → varint_within k text ≡ Some y
    → Taken k text y.0 y.1
varint_takes (suc k) (b ∷ bs) y h e = elim (chosen (nat_lt b 128) (Some (b, bs)) (joined b (varint_within k bs)) y e) [
  | inl w ↦ let small = ltb-true b 128 w.0 in
      record { prefix = b ∷ []; spelled = grind arith; short = omega arith; fits = grind arith; split = grind arith }
  | inr w ↦ let large = ltb-false b 128 w.0 in
      let x = joined_some b (varint_within k bs) y w.1 in
      let more = varint_takes k bs x.0 (rest_bytes b bs h) x.1 in
      let byte = h 0 in
      record {
        prefix = b ∷ more.prefix;
        spelled = grind (arith, spells_more);
        short = omega (arith, more.short);
        fits = grind arith;
        split = grind arith;
      }
]
varint_takes k text y h e = absurd (none-some y e)

pub varint_again : (k : ℕ) (prefix : List ℕ) (n : ℕ) (rest : List ℕ) → Spells prefix n → length prefix ≤ k → n < 2 ^ 64
    → varint_within k (prefix ++ rest) ≡ Some (n, rest)
varint_again (suc k) (b ∷ []) n rest s h f = grind (arith, lt-ltb)
varint_again (suc k) (b ∷ c ∷ bs) n rest (large, under, high, e, more) h f =
    grind (arith, le-ltb, lt-ltb, varint_again k (c ∷ bs) high rest more (omega arith) (omega arith))
varint_again zero (b ∷ bs) n rest s h f = absurd (omega (arith, h))
varint_again k [] n rest s h f = absurd s

split_again : (n : ℕ) (prefix rest : List ℕ) → length prefix ≡ n → split_off n (prefix ++ rest) ≡ Some (prefix, rest)
split_again n prefix rest e = grind (arith, common_steps, drop_at, le-ltb, take_at)

body_again : (b : Body) (n : ℕ) (rest : List ℕ) → IsBody b
    → body_at (wire_type b) n (body_text b ++ rest) ≡ Some (entry_by n b, rest)
body_again (varint_body t v) n rest h = rw (varint_again 10 t v rest h.spelled h.short h.fits) refl
body_again (delimited s c) n rest h =
    let size = varint_again 10 s (length c) (c ++ rest) h.spelled h.short h.fits in
    rw (append_assoc, size, split_again (length c) c rest refl) refl
body_again (eight_bytes t) n rest h = rw (split_again 8 t rest h) refl
body_again (four_bytes t) n rest h = rw (split_again 4 t rest h) refl

pub field_again : (s : Spelled) (rest : List ℕ) → IsSpelled s → field_at (text_of s ++ rest) ≡ Some (entry_of s, rest)
unfolding field_at
field_again s rest h =
    let w : wire_type s.body < 8 = grind arith in
    let number_is : (s.number * 8 + wire_type s.body) / 8 ≡ s.number = omega arith in
    let kind_is : (s.number * 8 + wire_type s.body) % 8 ≡ wire_type s.body = omega arith in
    let read = varint_again 10 s.tag (s.number * 8 + wire_type s.body) (body_text s.body ++ rest)
    h.tag.spelled h.tag.short h.tag.fits in
    let small = lt-ltb (s.number * 8 + wire_type s.body) (2 ^ 32) h.small in
    let some = ne_eqb s.number 0 (omega (arith, h.positive)) in
    rw (append_assoc, read, small, number_is, some, kind_is) (body_again s.body s.number rest h.body)

-- ---- what is read is spelled so

pub record BodyTaken (kind n : ℕ) (text : List ℕ) (entry : Option (ℕ × Value)) (rest : List ℕ) : Type 0 where
  pub body : Body
  pub kind_is : wire_type body ≡ kind
  pub ok : IsBody body
  pub entry_is : entry_by n body ≡ entry
  pub split : text ≡ body_text body ++ rest

body_is : (b : Body) (n : ℕ) (rest : List ℕ) → IsBody b
    → BodyTaken (wire_type b) n (body_text b ++ rest) (entry_by n b) rest
body_is b n rest ok = record { body = b; kind_is = refl; ok = ok; entry_is = refl; split = refl }

split_takes : (n : ℕ) (text : List ℕ) (y : List ℕ × List ℕ) → split_off n text ≡ Some y
    → (length y.0 ≡ n) × (text ≡ y.0 ++ y.1)
split_takes n text y e = grind (arith, chosen, length-take-le, ltb-false, none-some, same_Some, take-append-drop)

bound : {A B : Type 0} (f : A → Option B) (o : Option A) (y : B) → option_and_then f o ≡ Some y
    → (x : A) × (o ≡ Some x) × (f x ≡ Some y)
bound f o y e = grind (arith, none-some)

-- what is read at the front: an entry, and the bytes behind it
abbrev pub Read : Type 0
Read = Option (ℕ × Value) × List ℕ

abbrev pub some_read : Read → Option Read
some_read r = Some r

varint_taken : (n : ℕ) (text : List ℕ) (y : Read) → IsBytes text
    → option_and_then (λ x. Some (Some (n, number x.0), x.1)) (varint_within 10 text) ≡ Some y
    → BodyTaken 0 n text y.0 y.1
varint_taken n text y h e =
    let x = bound _ (varint_within 10 text) y e in
    let taken = varint_takes 10 text x.0 h x.1 in
    grind (arith, body_is (varint_body taken.prefix x.0.0) n)

skipped_taken : (size kind n : ℕ) (f : List ℕ → Body) (text : List ℕ) (y : Read)
    → ((t : List ℕ) → length t ≡ size
    → (wire_type (f t) ≡ kind) × IsBody (f t) × (entry_by n (f t) ≡ None) × (body_text (f t) ≡ t))
    → option_and_then (λ x. Some (None, x.1)) (split_off size text) ≡ Some y → BodyTaken kind n text y.0 y.1
skipped_taken size kind n f text y form e =
    let x = bound _ (split_off size text) y e in
    let taken = split_takes size text x.0 x.1 in
    let is = form x.0.0 taken.0 in
    grind (arith, body_is (f x.0.0) n)

delimited_taken : (n : ℕ) (text : List ℕ) (y : Read) → IsBytes text
    → option_and_then (λ x. option_and_then (λ y. Some (Some (n, bytes y.0), y.1)) (split_off x.0 x.1))
    (varint_within 10 text) ≡ Some y
    → BodyTaken 2 n text y.0 y.1
delimited_taken n text y h e =
    let x = bound _ (varint_within 10 text) y e in
    let size = varint_takes 10 text x.0 h x.1 in
    let z = bound _ (split_off x.0.0 x.0.1) y x.2 in
    let taken = split_takes x.0.0 x.0.1 z.0 z.1 in
    let split = append_assoc size.prefix z.0.0 y.1 in
    let body = body_is (delimited size.prefix z.0.0) n y.1 (grind arith) in
    grind arith

body_takes : (kind n : ℕ) (text : List ℕ) (y : Read) → IsBytes text → body_at kind n text ≡ Some y
    → BodyTaken kind n text y.0 y.1
body_takes kind n text y h e =
    let eight = skipped_taken 8 1 n eight_bytes text y (λ t size. (refl, size, refl, refl)) in
    let four = skipped_taken 4 5 n four_bytes text y (λ t size. (refl, size, refl, refl)) in
    grind (arith, common_steps, eqb-true, chosen, delimited_taken, none-some, varint_taken)

pub record FieldTaken (text : List ℕ) (entry : Option (ℕ × Value)) (rest : List ℕ) : Type 0 where
  pub field : Spelled
  pub ok : IsSpelled field
  pub entry_is : entry_of field ≡ entry
  pub split : text ≡ text_of field ++ rest

pub rest_of_bytes : (prefix rest : List ℕ) → IsBytes (prefix ++ rest) → IsBytes rest
rest_of_bytes [] rest h = h
rest_of_bytes (b ∷ bs) rest h = rest_of_bytes bs rest (rest_bytes b (bs ++ rest) h)

pub field_takes : (text : List ℕ) (y : Read) → IsBytes text → field_at text ≡ Some y → FieldTaken text y.0 y.1
unfolding field_at
field_takes text y h e =
    let x = bound _ (varint_within 10 text) y e in
    let tag = varint_takes 10 text x.0 h x.1 in
    let fits : (x.0.0 < 2 ^ 32) × (x.0.0 / 8 ≢ 0) × (body_at (x.0.0 % 8) (x.0.0 / 8) x.0.1 ≡ Some y) =
    grind (arith, chosen, eqb-false, ltb-true, none-some) in
    let body = body_takes (x.0.0 % 8) (x.0.0 / 8) x.0.1 y
    (rest_of_bytes tag.prefix x.0.1 (rw tag.split at h)) fits.2 in
    let whole : (x.0.0 / 8) * 8 + wire_type body.body ≡ x.0.0 = rw body.kind_is (omega arith) in
    record {
      field = record { tag = tag.prefix; number = x.0.0 / 8; body = body.body };
      ok = grind arith;
      entry_is = body.entry_is;
      split = grind (arith, append_assoc);
    }

pub row_none : IsRow [] []
row_none = ([], tt, refl, refl)

-- a list behind the entry of a field, which a value that is read over has not
abbrev pub with_entry : Option (ℕ × Value) → List (ℕ × Value) → List (ℕ × Value)
with_entry None fs = fs
with_entry (Some e) fs = e ∷ fs

row_ahead : (text : List ℕ) (e : Option (ℕ × Value)) (rest : List ℕ) (fs : List (ℕ × Value))
    → FieldTaken text e rest → IsRow rest fs → IsRow text (with_entry e fs)
row_ahead text e rest fs taken (row, ok, split, is) =
    (taken.field ∷ row, (taken.ok, ok), grind (arith, append_assoc), grind arith)

field_at_none : field_at [] ≡ None
unfolding field_at
field_at_none = refl

pub row_back : (text : List ℕ) (y : Read) (fs : List (ℕ × Value)) → field_at text ≡ Some y → IsRow text fs
    → (more : List (ℕ × Value)) × IsRow y.1 more
row_back text y fs e ([], ok, split, is) = absurd (cc field_at_none)
row_back text y fs e (s ∷ row, ok, split, is) =
    (_, (row, ok.1, cc (field_again s (flat_map text_of row) ok.0), refl))

pub row_stop : (text : List ℕ) (fs : List (ℕ × Value)) → 0 < length text → field_at text ≡ None → IsRow text fs → ⊥
row_stop text fs h e ([], ok, split, is) = omega (arith, ap length split)
row_stop text fs h e (s ∷ row, ok, split, is) = grind (arith, field_again, none-some)

-- what reading keeps: fields that are read, and a row that is left
pub record Kept (whole rest : List ℕ) (done : List (ℕ × Value)) : Type 0 where
  pub within : IsBytes rest
  pub ahead : (fs : List (ℕ × Value)) → IsRow rest fs → IsRow whole (done ++ fs)
  pub back : (fs : List (ℕ × Value)) → IsRow whole fs → (more : List (ℕ × Value)) × IsRow rest more

pub kept_first : (whole : List ℕ) (done : List (ℕ × Value)) → done ≡ [] → IsBytes whole → Kept whole whole done
kept_first whole done e h = rw e (record { within = h; ahead = λ fs row. row; back = λ fs row. (fs, row) })

pub kept_more : (whole rest others : List ℕ) (done more : List (ℕ × Value)) (e : Option (ℕ × Value))
    → field_at rest ≡ some_read (e, others) → more ≡ done ++ with_entry e [] → Kept whole rest done
    → Kept whole others more
kept_more whole rest others done more e read more_is kept =
    let taken = field_takes rest (e, others) kept.within read in
    let joined : (fs : List (ℕ × Value)) → more ++ fs ≡ done ++ with_entry e fs =
    λ fs. grind (arith, append_assoc, append-nil) in
    record {
      within = rest_of_bytes (text_of taken.field) others (rw taken.split at kept.within);
      ahead = λ fs row. rw (joined fs) (kept.ahead (with_entry e fs) (row_ahead rest e others fs taken row));
      back = λ fs row. row_back rest (e, others) (kept.back fs row).0 read (kept.back fs row).1;
    }

pub field_shorter : (rest others : List ℕ) (e : Option (ℕ × Value)) → IsBytes rest
    → field_at rest ≡ some_read (e, others) → length others < length rest
field_shorter rest others e h read =
    let taken = field_takes rest (e, others) h read in grind (arith, common_steps)

pub kept_all : (whole rest : List ℕ) (done : List (ℕ × Value)) → Kept whole rest done → rest ≡ [] → IsRow whole done
kept_all whole rest done kept e = grind (arith, append-nil, kept.ahead [], row_none)

-- one row of bytes, one list
same_front : (s t : Spelled) (x y : List ℕ) → IsSpelled s → IsSpelled t → text_of s ++ x ≡ text_of t ++ y
    → (entry_of s ≡ entry_of t) × (x ≡ y)
same_front s t x y h k e =
    grind (arith, field_again s x h, field_again t y k)

pub row_one : (row others : List Spelled) → AllByRecursion IsSpelled row → AllByRecursion IsSpelled others
    → flat_map text_of row ≡ flat_map text_of others
    → filter_map entry_of row ≡ filter_map entry_of others
row_one (s ∷ ss) (t ∷ ts) h k e =
    grind (arith, same_front s t _ _ h.0 k.0 e, row_one ss ts h.1 k.1)
row_one [] [] h k e = refl
row_one row others h k e = grind (arith, field_again, field_at_none, none-some)

pub spelled_once : (s t : Spelled) (x : List ℕ) → IsSpelled s → IsSpelled t → text_of s ++ x ≡ text_of t → x ≡ []
spelled_once s t x h k e = grind (arith, append-nil, same_front s t x [] h k)

pub one_list : (text : List ℕ) (first second : List (ℕ × Value)) → IsRow text first → IsRow text second → first ≡ second
one_list text first second is other = grind (arith, row_one)

-- the spelling that is written
abbrev written_body : Value → Body
written_body (number n) = varint_body (varint_bytes n) n
written_body (bytes contents) = delimited (varint_bytes (length contents)) contents

abbrev written_field : ℕ × Value → Spelled
written_field field = record {
  tag = varint_bytes (field.0 * 8 + wire_type (written_body field.1));
  number = field.0;
  body = written_body field.1;
}

written_is_spelled : (field : ℕ × Value) → IsMessageField field → IsSpelled (written_field field)
written_is_spelled field ok = grind (arith, varint_spelled, varint_short)

pub written_row : (fields : List (ℕ × Value)) → All IsMessageField fields → IsRow (row_bytes fields) fields
written_row [] ok = row_none
written_row (field ∷ fields) ok =
    let rest = written_row fields (All-tail IsMessageField field fields ok) in
    let one = written_is_spelled field (All-head IsMessageField field fields ok) in
    (written_field field ∷ rest.0, (one, rest.1), grind (arith, append_assoc), grind arith)
