-- The files of a set, spelled by the shortest varints, are no longer than the set.
use Rattle.std.proofs.Common.{◌≡◌, ◌∙◌, sym, ap, ℕ, zero, suc, ◌+◌, ◌*◌, ◌<◌, ◌≤◌, List, [], ◌∷◌, ◌++◌, length, length-append, get_or, map, take, take_all, refl, arith, inl, inr, Bool, true, false, not, cond, filter, sum_by, Contains, ◌==◌, eqb-true, eq-eqb, subst, flat_map}
use Rattle.std.proofs.lemmas.List.{length-map, take_more}
use Rattle.std.proofs.lemmas.List.Concat.{length-flat_map}
use Rattle.std.proofs.lemmas.List.Filters.{sum_by-filter_both}
use Rattle.std.proofs.lemmas.List.FromFn.{get_or-range_with_len, length-range_with_len, map-range_with_len_more}
use Rattle.std.proofs.lemmas.List.Sorted.{IsPermutation-map, sum_by-IsPermutation}
use Rattle.std.proofs.lemmas.List.Sums.{get_or-le-sum_by, sum_by-cons}
use Rattle.std.specs.List.{AllByRecursion, IsDistinct, cons_option, filter_map, range_with_len}
use Rattle.proto_base.specs.declared.limits.Limits.{Limits}
use Rattle.proto_compilation.specs.Compilation.{Compilation, file_bytes, set_of}
use Rattle.proto_links.proofs.Rising.{behind, front, front_or_behind, none_in}
use Rattle.proto_links.proofs.Whole.{whole_of}
use Rattle.proto_sets.specs.Elements.{text_in}
use Rattle.proto_sets.specs.Sets.{IsOfSet, depth_of, head_of}
use Rattle.proto_sets.proofs.OneSet.{named_each, zipped_heads}
use Rattle.wire_format.specs.Field.{bytes_field}
use Rattle.wire_format.specs.Reading.{Body, IsBody, IsSpelled, IsVarint, Spelled, Value, bytes, body_text, delimited, eight_bytes, entry_by, entry_of, four_bytes, text_of, varint_body, wire_type}
use Rattle.wire_format.specs.Varint.{varint_bytes}
use Rattle.wire_format.proofs.Varints.{groups_shortest}

-- ---- a file as a field, and as the set spells it

abbrev field_len : List ℕ → ℕ
field_len text = length (bytes_field 1 text)

abbrev files_len : List (ℕ × Value) → ℕ
files_len fields = sum_by field_len (filter_map (text_in 1) fields)

shortest : (text : List ℕ) (n : ℕ) → IsVarint text n → length (varint_bytes n) ≤ length text
unfolding varint_bytes
shortest text n is = groups_shortest 9 n text (omega (arith, is.fits)) is.spelled

delimited_long : (tag size contents : List ℕ) (n : ℕ) (b : Bool) → (n == 1) ≡ b → IsVarint tag (n * 8 + 2)
    → IsVarint size (length contents) → (rest : List (ℕ × Value))
    → files_len ((n, bytes contents) ∷ rest) ≤ length (tag ++ (size ++ contents)) + files_len rest
delimited_long tag size contents n true same is_tag is_size rest =
    let one : n ≡ 1 = eqb-true n 1 same in
    let ten : n * 8 + 2 ≡ 10 = omega (arith, one) in
    let head = rw ten at (shortest tag (n * 8 + 2) is_tag) in
    let middle = shortest size (length contents) is_size in
    let own = length-append (varint_bytes 10 ++ varint_bytes (length contents)) contents in
    let both = length-append (varint_bytes 10) (varint_bytes (length contents)) in
    rw same (omega (
      arith,
      sum_by-cons field_len contents (filter_map (text_in 1) rest),
      own,
      both,
      head,
      middle,
      length-append tag (size ++ contents),
      length-append size contents,
    ))
delimited_long tag size contents n false same is_tag is_size rest = rw same (omega arith)

body_long : (tag : List ℕ) (n : ℕ) (body : Body) → IsVarint tag (n * 8 + wire_type body) → IsBody body
    → (rest : List (ℕ × Value))
    → files_len (cons_option (entry_by n body) rest) ≤ length (tag ++ body_text body) + files_len rest
body_long tag n (varint_body text value) is_tag is_body rest = omega arith
body_long tag n (eight_bytes text) is_tag is_body rest = omega arith
body_long tag n (four_bytes text) is_tag is_body rest = omega arith
body_long tag n (delimited size contents) is_tag is_body rest =
    delimited_long tag size contents n (n == 1) refl is_tag is_body rest

row_long : (row : List Spelled) → AllByRecursion IsSpelled row
    → files_len (filter_map entry_of row) ≤ length (flat_map text_of row)
row_long [] all = omega arith
row_long (s ∷ row) all =
    let own = body_long s.tag s.number s.body all.0.tag all.0.body (filter_map entry_of row) in
    let rest = row_long row all.1 in
    omega (arith, own, rest, length-append (text_of s) (flat_map text_of row))

-- ---- each file once

contains_kept : (b : Bool) (y : ℕ) (zs : List ℕ) (a : ℕ) → Contains zs a → Contains (cond b (y ∷ zs) zs) a
contains_kept true y zs a has = behind y zs a has
contains_kept false y zs a has = has

contains_filter : (p : ℕ → Bool) (ys : List ℕ) (a : ℕ) → Contains ys a → p a ≡ true → Contains (filter p ys) a
contains_filter p [] a has pass = absurd (none_in a has)
contains_filter p (y ∷ ys) a has pass = elim (front_or_behind y ys a has) [
  | inl here ↦ (let passes : p y ≡ true = rw here pass in rw (passes, ← here) (front y (filter p ys)))
  | inr there ↦ contains_kept (p y) y (filter p ys) a (contains_filter p ys a there pass)
]

one_of_all : (P : ℕ → Type 0) (xs : List ℕ) (a : ℕ) → AllByRecursion P xs → Contains xs a → P a
one_of_all P [] a all has = absurd (none_in a has)
one_of_all P (x ∷ xs) a all has = elim (front_or_behind x xs a has) [
  | inl here ↦ rw (← here) all.0
  | inr there ↦ one_of_all P xs a all.1 there
]

term_le : (f : ℕ → ℕ) (xs : List ℕ) (a : ℕ) → Contains xs a → f a ≤ sum_by f xs
term_le f xs a (k, below, is) = let most = get_or-le-sum_by f xs k a below in rw is at most

twice_not : (b : Bool) → b ≡ not (not b)
twice_not true = refl
twice_not false = refl

distinct_sum : (f : ℕ → ℕ) (xs ys : List ℕ) → IsDistinct ◌==◌ xs → ((a : ℕ) → Contains xs a → Contains ys a)
    → sum_by f xs ≤ sum_by f ys
unfolding IsDistinct
distinct_sum f [] ys once all = omega arith
distinct_sum f (x ∷ xs) ys once all =
    let same : ℕ → Bool = λ y. x == y in
    let other : ℕ → Bool = λ y. not (x == y) in
    let parts = sum_by-filter_both other same (λ y. twice_not (x == y)) f ys in
    let rest = distinct_sum f xs (filter other ys) once.1 (λ a has. contains_filter other ys a (all a (behind x xs a has))
    (ap not (one_of_all (λ y. (x == y) ≡ false) xs a once.0 has))) in
    let one = term_le f (filter same ys) x (contains_filter same ys x (all x (front x xs))
    (eq-eqb x x refl)) in
    omega (arith, sum_by-cons f x xs, parts, rest, one)

positions : (texts : List (List ℕ)) (n : ℕ) → n ≤ length texts
    → map (λ a. get_or texts a []) (range_with_len 0 n) ≡ take n texts
positions texts zero h = refl
positions texts (suc n) h =
    let next : suc n ≡ n + 1 = omega arith in
    let at : ℕ → List ℕ = λ a. get_or texts a [] in
    subst (λ m. map at (range_with_len 0 m) ≡ take m texts) (sym next) (map-range_with_len_more at 0 n n (omega arith)
    ∙ ap (λ (ts : List (List ℕ)). ts ++ at n ∷ []) (positions texts n (omega (arith, h)))
    ∙ sym (take_more texts n [] (omega (arith, h))))

sum_over : (f : List ℕ → ℕ) (g : ℕ → List ℕ) (xs : List ℕ) → sum_by (λ a. f (g a)) xs ≡ sum_by f (map g xs)
sum_over f g [] = refl
sum_over f g (x ∷ xs) = omega (
  arith,
  sum_by-cons (λ a. f (g a)) x xs,
  sum_by-cons f (g x) (map g xs),
  sum_over f g xs,
)

-- some of the texts, each at most once
some_texts : (texts : List (List ℕ)) (order : List ℕ) → IsDistinct ◌==◌ order
    → ((a : ℕ) → Contains order a → a < length texts)
    → length (flat_map (λ a. bytes_field 1 (get_or texts a [])) order) ≤ sum_by field_len texts
some_texts texts order once inside =
    let n = length texts in
    let at : ℕ → List ℕ = λ a. get_or texts a [] in
    let all = distinct_sum (λ a. field_len (at a)) order (range_with_len 0 n) once (λ a has. (
      a,
      omega (arith, inside a has, length-range_with_len 0 n),
      get_or-range_with_len 0 n a a (inside a has) ∙ (omega arith),
    )) in
    let whole = sum_over field_len at (range_with_len 0 n)
    ∙ ap (sum_by field_len) (positions texts n (omega arith) ∙ take_all n texts (omega arith)) in
    omega (arith, length-flat_map (λ a. bytes_field 1 (at a)) order, all, whole)

-- ---- the set

pub set_within : (limits : Limits) (set : List ℕ) (c : Compilation) → IsOfSet limits set c
    → length (set_of c.files c.links) ≤ length set
set_within limits set c is =
    let by_name = is.says.by_name in
    let (fields, (row, spelled, text, entries), texts) = by_name.are.texts in
    let long = row_long row spelled in
    let size = ap length text in
    let listed : sum_by field_len (map file_bytes by_name.placed) ≡ files_len (filter_map entry_of row) =
    ap (sum_by field_len) (texts ∙ ap (λ (fs : List (ℕ × Value)). filter_map (text_in 1) fs) entries) in
    let sorted = sum_by-IsPermutation field_len (map file_bytes by_name.placed) (map file_bytes c.files)
    (IsPermutation-map file_bytes by_name.placed c.files by_name.all) in
    let whole = whole_of (map head_of is.contents) c.links is.linked in
    let count = (zipped_heads (depth_of limits) c.files is.contents (named_each by_name) is.says.each).0 in
    let most = some_texts (map file_bytes c.files) c.links.set_order whole.each_once (λ a has.
    omega (
      arith,
      (whole.every a).0 has,
      is.linked.count,
      length-map is.contents head_of,
      count,
      length-map c.files file_bytes,
    )) in
    omega (arith, long, size, listed, sorted, most)
