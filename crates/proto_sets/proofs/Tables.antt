-- The table of extensions: one step of the walk over those in order.
use Rattle.std.proofs.Common.{◌≡◌, ◌∙◌, sym, ap, ℕ, ◌+◌, ◌<◌, ◌≤◌, ◌⊎◌, inl, inr, List, [], ◌∷◌, ◌++◌, length, get_or, map, take, refl, arith, subst, false, Contains, Ordering, Less, Equal, Greater, nat_cmp, is_lt, ◌-◌, IsPermutation, IsSorted, IsSomeAnd, Option, None, Some, slice_get}
use Rattle.std.proofs.lemmas.Bool.{cases_lt, cases_order}
use Rattle.std.proofs.lemmas.Bool.Decides.{nat_tests}
use Rattle.std.proofs.lemmas.Cmp.{nat_list_cmp_total, tied_itself}
use Rattle.std.proofs.lemmas.List.{get_or_append_left, get_or_default, get_or_push, length_push, take_more}
use Rattle.std.proofs.lemmas.List.Elements.{Contains-append_left, Contains-get_or, Contains-push, Contains-push_cases}
use Rattle.std.proofs.lemmas.Map.Lookups.{exact_bytes}
use Rattle.std.specs.Cmp.Lexicographic.{slice_cmp}
use Rattle.std.proofs.lemmas.Option.{get_or_from_slice_get, slice_get-get_or, slice_get_within}
use Rattle.std.specs.Cmp.{IsTotalOrder}
use Rattle.std.proofs.lemmas.Cmp.{nat_cmp_total, on_total, then_total}
use Rattle.std.proofs.lemmas.List.{get_or-map, get_or-take, length-map, length-take-le}
use Rattle.std.proofs.lemmas.List.MinMax.{ranks_by}
use Rattle.std.proofs.lemmas.List.Sorted.{Contains-permutation, IsPermutation-sym, length_permutation, sorted_far}
use Rattle.proto_compilation.specs.Extensions.{DeclaredExtension, ExtensionsRise, Precedes}
use Rattle.proto_links.proofs.NameRows.{not_less_itself}
use Rattle.proto_names.proofs.Ordered.{order_tells}
use Rattle.proto_sets.specs.Extensions.{AreAmong, AreTabled, HaveOneNumber, IsDeclared}
use Rattle.proto_sets.specs.Says.{ExtensionAt}
use Rattle.proto_sets.specs.TableSteps.{AreInOrder, AreNamed, IsRepeated, IsTableOf, extension_cmp, named_by, names_of}
use Rattle.proto_sets.specs.SaysSteps.{extension_of}
use Rattle.proto_sets.specs.declared.extension.Extension.{Extension}
use Rattle.proto_sets.specs.declared.table.NamedExtension.{NamedExtension}

-- what stands at no position
abbrev pub no_name : NamedExtension
no_name = record { message = record { ref_ptr = (0, 0); now = [] }; number = 0; file = 0 }

abbrev pub no_extension : Extension
no_extension = record { extendee = record { ref_ptr = (0, 0); now = [] }; number = 0; file = 0 }

-- ---- the order

abbrev IsNotBefore : DeclaredExtension → DeclaredExtension → Type 0
IsNotBefore d a = is_lt (extension_cmp d a) ≡ false

later_file : (a d : DeclaredExtension) → IsNotBefore d a → HaveOneNumber a d → a.file ≤ d.file
later_file a d h (message, number) =
    grind (arith, nat_tests, order_tells, nat_list_cmp_total, tied_itself, sym message, sym number)

precedes : (a d : DeclaredExtension) → IsNotBefore d a → (HaveOneNumber a d → ⊥) → Precedes a d
precedes a d h other = grind (arith, nat_tests, order_tells, nat_list_cmp_total, exact_bytes)

pub itself : (a : DeclaredExtension) → Precedes a a → ⊥
itself a h = grind (arith, not_less_itself a.message)

pub far : (a b d : DeclaredExtension) → Precedes a b → Precedes b d → Precedes a d
far a b d first second = grind (arith, nat_list_cmp_total)

-- ---- one more

module _ (ds table : List DeclaredExtension) (d : DeclaredExtension) (so : IsTableOf ds table)
    (behind : (a : DeclaredExtension) → Contains ds a → IsNotBefore d a) where
  abbrev at : ℕ → DeclaredExtension
  at k = get_or table k d

  behind_all : (k : ℕ) → k < length table → IsNotBefore d (at k)
  behind_all k h = behind (at k) (so.each (at k) (Contains-get_or table k d h))

  -- the last of the table
  repeated_at : (o : Option DeclaredExtension) → slice_get table (length table - 1) ≡ o
      → IsSomeAnd o (λ last. HaveOneNumber last d) → (k : ℕ) × (k + 1 ≡ length table) × HaveOneNumber (at k) d
  repeated_at None is one = absurd one
  repeated_at (Some last) is one =
      let k = length table - 1 in
      let below = slice_get_within table k last is in
      (k, omega (arith, below), rw (get_or_from_slice_get table k last d is) one)

  at_repeated : (k : ℕ) → k + 1 ≡ length table → HaveOneNumber (at k) d → IsRepeated table d
  at_repeated k end one =
      let last : length table - 1 ≡ k = omega (arith, end) in
      rw (last, slice_get-get_or table k d (omega (arith, end))) one

  pub kept : IsRepeated table d → IsTableOf (ds ++ d ∷ []) table
  kept again = let (k, last, one) = repeated_at (slice_get table (length table - 1)) refl again in record {
    rise = so.rise;
    each = λ f w. Contains-append_left ds (d ∷ []) f (so.each f w);
    all = λ f w. elim (Contains-push_cases ds d f w) [
      | inl before ↦ so.all f before
      | inr same ↦ rw (sym same) (
        at k,
        Contains-get_or table k d (omega (arith, last)),
        one,
        later_file (at k) d (behind_all k (omega (arith, last))) one,
      )
    ];
    few = omega (arith, so.few, length_push ds d);
  }

  -- what stands before the last one precedes it
  before_new : (IsRepeated table d → ⊥) → (k : ℕ) → k < length table → Precedes (at k) d
  before_new other k h = elim (cases_lt (k + 1) (length table)) [
    | inl inner ↦ (
        let last : ℕ = length table - 1 in
        let end : last + 1 ≡ length table = omega (arith, h) in
        far (at k) (at last) d (so.rise k last d (omega (arith, inner)) (omega (arith, h)))
        (precedes (at last) d (behind_all last (omega (arith, h))) (λ one. other (at_repeated last end one))))
    | inr outer ↦ precedes (at k) d (behind_all k h) (λ one. other (at_repeated k (omega (arith, outer, h)) one))
  ]

  pub pushed : (IsRepeated table d → ⊥) → IsTableOf (ds ++ d ∷ []) (table ++ d ∷ [])
  pushed other = record {
    rise = λ i j e less below. rise i j e less below;
    each = λ f w. elim (Contains-push_cases table d f w) [
      | inl old ↦ Contains-append_left ds (d ∷ []) f (so.each f old)
      | inr same ↦ rw (sym same) (Contains-push ds d)
    ];
    all = λ f w. elim (Contains-push_cases ds d f w) [
      | inl before ↦ (
          let (g, has, one, first) = so.all f before in
          (g, Contains-append_left table (d ∷ []) g has, one, first))
      | inr same ↦ rw (sym same) (d, Contains-push table d, (refl, refl), omega arith)
    ];
    few = omega (arith, so.few, length_push ds d, length_push table d);
  } where
    stays : (i : ℕ) (e : DeclaredExtension) → i < length table → get_or (table ++ d ∷ []) i e ≡ at i
    stays i e h = get_or_append_left table (d ∷ []) e i h ∙ get_or_default table i e d h

    rise : (i j : ℕ) (e : DeclaredExtension) → i < j → j < length (table ++ d ∷ [])
        → Precedes (get_or (table ++ d ∷ []) i e) (get_or (table ++ d ∷ []) j e)
    rise i j e less below = elim (cases_lt j (length table)) [
      | inl inner ↦ rw (stays i e (omega (arith, less, inner)), stays j e inner) (so.rise i j d less inner)
      | inr outer ↦ (
          let long = length_push table d in
          let last : length table ≡ j = omega (arith, outer, below, long) in
          rw (stays i e (omega (arith, less, last)), get_or_push table d e j last)
          (before_new other i (omega (arith, less, last))))
    ]

-- ---- those in order

extension_total : IsTotalOrder extension_cmp
extension_total =
    then_total (on_total (λ d. d.message) nat_list_cmp_total)
    (then_total (on_total (λ d. d.number) nat_cmp_total) (on_total (λ d. d.file) nat_cmp_total))

pub behind_of : (ds : List DeclaredExtension) (k : ℕ) (d : DeclaredExtension) → AreInOrder ds → k < length ds
    → (a : DeclaredExtension) → Contains (take k ds) a → IsNotBefore (get_or ds k d) a
behind_of ds k d up h a (j, inside, is) =
    let size = length-take-le k ds (omega (arith, h)) in
    let less : j < k = omega (arith, inside, size) in
    let here : get_or ds j a ≡ a = sym (get_or-take k ds j a less) ∙ is in
    let far = sorted_far (λ x y. is_lt (extension_cmp x y)) (ranks_by extension_total (λ o. o)) ds up j k a
    (omega (arith, less)) h in
    rw (get_or_default ds k d a h) (rw here at far)

pub next_mapped : {X Y : Type 0} (f : X → Y) (xs : List X) (k : ℕ) (d : X) → k < length xs
    → take (k + 1) (map f xs) ≡ take k (map f xs) ++ f (get_or xs k d) ∷ []
next_mapped f xs k d h =
    take_more (map f xs) k (f d) (omega (arith, h, length-map xs f))
    ∙ ap (λ y. take k (map f xs) ++ y ∷ []) (get_or-map f xs k d (f d) h)

-- the same of the program's
pub behind_next : (es : List NamedExtension) (k : ℕ) (e : NamedExtension) → AreInOrder (names_of es) → k < length es
    → (a : DeclaredExtension) → Contains (take k (names_of es)) a → IsNotBefore (named_by (get_or es k e)) a
behind_next es k e up h a w =
    let far = behind_of (names_of es) k (named_by e) up (omega (arith, h, length-map es named_by)) a w in
    rw (get_or-map named_by es k e (named_by e) h) at far

module _ (es : List NamedExtension) (k : ℕ) (e : NamedExtension) (table : List DeclaredExtension)
    (up : AreInOrder (names_of es)) (h : k < length es) (so : IsTableOf (take k (names_of es)) table) where
  pub next_kept : IsRepeated table (named_by (get_or es k e)) → IsTableOf (take (k + 1) (names_of es)) table
  next_kept again = rw (next_mapped named_by es k e h)
      (kept (take k (names_of es)) table (named_by (get_or es k e)) so (behind_next es k e up h) again)

  pub next_pushed : (IsRepeated table (named_by (get_or es k e)) → ⊥)
      → IsTableOf (take (k + 1) (names_of es)) (table ++ named_by (get_or es k e) ∷ [])
  next_pushed other = rw (next_mapped named_by es k e h)
      (pushed (take k (names_of es)) table (named_by (get_or es k e)) so (behind_next es k e up h) other)

-- ---- those that are spelled in full

one_of : (e : ExtensionAt) (d f : DeclaredExtension) → IsDeclared e d → IsDeclared e f → d ≡ f
one_of e d f first second = grind (arith, first.spelled, second.spelled, first.number, second.number, first.file, second.file)

module _ (es : List ExtensionAt) (e : ExtensionAt) (ds : List DeclaredExtension) (so : AreNamed es ds) where
  still : (f : DeclaredExtension) → AreAmong es f → AreAmong (es ++ e ∷ []) f
  still f (g, has, is) = (g, Contains-append_left es (e ∷ []) g has, is)

  pub named_pushed : (d : DeclaredExtension) → IsDeclared e d → AreNamed (es ++ e ∷ []) (ds ++ d ∷ [])
  named_pushed d is = record {
    each = λ f w. elim (Contains-push_cases ds d f w) [
      | inl before ↦ still f (so.each f before)
      | inr same ↦ (e, Contains-push es e, rw (sym same) is)
    ];
    all = λ f (g, has, declared). elim (Contains-push_cases es e g has) [
      | inl before ↦ Contains-append_left ds (d ∷ []) f (so.all f (g, before, declared))
      | inr same ↦ rw (one_of e f d (rw same declared) is) (Contains-push ds d)
    ];
  }

  pub named_passed : ((d : DeclaredExtension) → IsDeclared e d → ⊥) → AreNamed (es ++ e ∷ []) ds
  named_passed none = record {
    each = λ f w. still f (so.each f w);
    all = λ f (g, has, declared). elim (Contains-push_cases es e g has) [
      | inl before ↦ so.all f (g, before, declared)
      | inr same ↦ absurd (none f (rw same declared))
    ];
  }

-- the first of a list that has one
first_of : {X : Type 0} (xs : List X) (k : ℕ) → k < length xs → X
first_of [] k h = absurd (omega (arith, h))
first_of (x ∷ xs) k h = x

module _ (es : List Extension) (k : ℕ) (e : Extension) (ds : List DeclaredExtension) (h : k < length es)
    (so : AreNamed (take k (map extension_of es)) ds) where
  pub next_named : (d : DeclaredExtension) → IsDeclared (extension_of (get_or es k e)) d
      → AreNamed (take (k + 1) (map extension_of es)) (ds ++ d ∷ [])
  next_named d is = rw (next_mapped extension_of es k e h)
      (named_pushed (take k (map extension_of es)) (extension_of (get_or es k e)) ds so d is)

  pub next_passed : ((d : DeclaredExtension) → IsDeclared (extension_of (get_or es k e)) d → ⊥)
      → AreNamed (take (k + 1) (map extension_of es)) ds
  next_passed none = rw (next_mapped extension_of es k e h)
      (named_passed (take k (map extension_of es)) (extension_of (get_or es k e)) ds so none)

-- ---- the whole table

-- those of the program are in order by message, number and file
pub named_in_order : (es : List NamedExtension) → IsSorted (λ a b. extension_cmp (named_by a) (named_by b)) es
    → AreInOrder (names_of es)
named_in_order es up k d low below =
    let long = length-map es named_by in
    let next : k + 1 < length es = omega (arith, below, long) in
    let e = get_or es k (first_of es (k + 1) next) in
    rw (get_or-map named_by es (k + 1) e d next, get_or-map named_by es k e d (omega (arith, next)))
    (up k e low next)

pub tabled : (es : List ExtensionAt) (named ds table : List DeclaredExtension) → AreNamed es named
    → length named ≤ length es
    → IsPermutation named ds → IsTableOf ds table → AreTabled es table
tabled es named ds table are fewer same so = record {
  rise = so.rise;
  each = λ d w. are.each d (Contains-permutation ds named d (IsPermutation-sym named ds same) (so.each d w));
  all = λ d w. so.all d (Contains-permutation named ds d same (are.all d w));
  few = omega (arith, so.few, fewer, length_permutation named ds same);
}
