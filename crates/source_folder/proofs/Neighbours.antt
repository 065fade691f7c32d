-- Laws of neighbours in a list of sources.
use Rattle.std.proofs.Common.{◌≡◌, ◌∙◌, sym, ℕ, ◌+◌, ◌-◌, ◌<◌, ◌≤◌, List, [], ◌∷◌, length, get_or, ap, refl, arith, inl, inr, ◌⊎◌, Ordering, Less, Equal, Greater}
use Rattle.std.specs.Prelude.{true, false, nat_eq}
use Rattle.std.specs.Cmp.Lexicographic.{slice_cmp, pointwise, bytes_decides}
use Rattle.std.specs.Ordering.{nat_cmp, ordering_reverse, is_lt}
use Rattle.std.proofs.lemmas.Bool.{cases_lt, false≢true}
use Rattle.std.proofs.lemmas.Cmp.{nat_list_cmp_total}
use Rattle.std.proofs.lemmas.Map.Lookups.{exact_bytes}
use Rattle.std.proofs.lemmas.List.{get_or-map, length-map}
use Rattle.proto_base.specs.NameOrder.{NamesRise}
use Rattle.source_folder.specs.Ordered.{AreInPathOrder, HaveTwins, path_at, path_of, paths_of}
use Rattle.source_folder.specs.declared.walk.ProtoEntry.{ProtoEntry}

path_is : (sources : List ProtoEntry) (k : ℕ) (d : ProtoEntry) → k < length sources
    → path_at sources k ≡ path_of (get_or sources k d)
path_is sources k d h = get_or-map path_of sources k d [] h

-- two neighbours with one path
pub twins_at : (sources : List ProtoEntry) (n : ℕ) (f g : ProtoEntry) → 0 < n → n < length sources
    → pointwise nat_eq (path_of (get_or sources (n - 1) f)) (path_of (get_or sources n g)) ≡ true → HaveTwins sources
twins_at sources n f g some h same =
    let next : n ≡ n - 1 + 1 = omega arith in (
      n - 1,
      omega arith,
      path_is sources (n - 1) f (omega arith) ∙ (bytes_decides _ _).0 same
          ∙ sym (path_is sources n g h) ∙ ap (path_at sources) next,
    )

-- two neighbours with two paths
pub apart_at : (sources : List ProtoEntry) (n : ℕ) (f g : ProtoEntry) → 0 < n → n < length sources
    → pointwise nat_eq (path_of (get_or sources (n - 1) f)) (path_of (get_or sources n g)) ≡ false
    → path_at sources (n - 1) ≡ path_at sources n → ⊥
apart_at sources n f g some h other same =
    false≢true
    (sym other ∙ (bytes_decides _ _).1 (sym (path_is sources (n - 1) f (omega arith)) ∙ same ∙ path_is sources n g h))

apart_case : (sources : List ProtoEntry) (n : ℕ) → (path_at sources (n - 1) ≡ path_at sources n → ⊥) → 0 < n
    → ((k : ℕ) → k + 1 < n → path_at sources k ≡ path_at sources (k + 1) → ⊥) → (k : ℕ) → k + 1 < n + 1
    → (k + 1 < n) ⊎ (n ≤ k + 1)
    → path_at sources k ≡ path_at sources (k + 1) → ⊥
apart_case sources n last some old k h (inl less) = old k less
apart_case sources n last some old k h (inr over) = λ same.
    let first : n - 1 ≡ k = omega arith in
    let second : k + 1 ≡ n = omega arith in
    last (ap (path_at sources) first ∙ same ∙ ap (path_at sources) second)

-- one more pair of neighbours
pub apart_more : (sources : List ProtoEntry) (n : ℕ) → (path_at sources (n - 1) ≡ path_at sources n → ⊥) → 0 < n
    → ((k : ℕ) → k + 1 < n → path_at sources k ≡ path_at sources (k + 1) → ⊥) → (k : ℕ) → k + 1 < n + 1
    → path_at sources k ≡ path_at sources (k + 1) → ⊥
apart_more sources n last some old k h = apart_case sources n last some old k h (cases_lt (k + 1) n)

less_from : (forth back : Ordering) → forth ≡ ordering_reverse back → is_lt back ≡ false → (back ≡ Equal → ⊥)
    → forth ≡ Less
less_from forth Less turned low apart = absurd (false≢true (sym low))
less_from forth Equal turned low apart = absurd (apart refl)
less_from forth Greater turned low apart = turned

rising_at : (sources : List ProtoEntry) (d : ProtoEntry) → AreInPathOrder sources → (HaveTwins sources → ⊥) → (k : ℕ)
    → k + 1 < length sources
    → slice_cmp nat_cmp (path_at sources k) (path_at sources (k + 1)) ≡ Less
rising_at sources d order apart k h =
    let first = path_is sources k d (omega arith) in
    let second = path_is sources (k + 1) d h in
    let low = order k d (omega arith) h in
    less_from _ _ (nat_list_cmp_total.antisymm (path_at sources k) (path_at sources (k + 1)))
    (ap is_lt (ap (λ xs. slice_cmp nat_cmp xs (path_at sources k)) second
    ∙ ap (λ ys. slice_cmp nat_cmp (path_of (get_or sources (k + 1) d)) ys) first) ∙ low)
    (λ same. apart (k, h, sym (exact_bytes _ _ same)))

pub no_neighbours : (k : ℕ) → k + 1 < 0 → ⊥
no_neighbours k h = omega arith

-- sorted paths of which no two neighbours are the same
pub rising : (sources : List ProtoEntry) → AreInPathOrder sources → (HaveTwins sources → ⊥)
    → NamesRise (paths_of sources)
rising [] order apart k h = absurd (no_neighbours k h)
rising (s ∷ sources) order apart k h =
    rising_at (s ∷ sources) s order apart k (omega (arith, h, length-map (s ∷ sources) path_of))
