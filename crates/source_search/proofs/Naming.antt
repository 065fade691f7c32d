-- Names that differ, names that rise, and a search that has nothing but the given sources.
use Rattle.source_search.proofs.Common.{common_steps, ◌≡◌, ◌∙◌, sym, ap, refl, subst, ℕ, ◌+◌, ◌<◌, List, [], ◌∷◌, length, get_or, map, arith, true, false, Ordering, Less, Equal, Greater, nat_cmp, is_lt, true≢false, take, Bool, if◌then◌else◌, Contains, nat_list_cmp_total, nat_list_eq_equiv, get_or-map, length-map, map_more, IsPermutation-map, name_of, names_of, NamedText, name_in, named_bytes, IsWanted, NamedBytes, is_given, All-contains_itself, All-map, Limits, IsSearched, all_of}
use Rattle.std.proofs.lemmas.Map.Text.{is_eq-slice_cmp}
use Rattle.std.proofs.lemmas.Map.Keys.{IsDistinct-from_sorted, IsDistinct-IsPermutation, apart_from_distinct, sorted_from_all_adjacent}
use Rattle.std.specs.Cmp.Lexicographic.{slice_cmp}
use Rattle.std.specs.List.{IsDistinct, list_any}
use Rattle.std.specs.List.Sorted.{IsPermutation, IsSortedByKey}
use Rattle.std.specs.Ordering.{ordering_reverse}
use Rattle.std.specs.Str.{bytes_eq}
use Rattle.std.proofs.lemmas.Bool.{false≢true}
use Rattle.std.proofs.lemmas.Map.Lookups.{exact_bytes}
use Rattle.std.proofs.lemmas.Slice.Eq.{bytes_eq-Decides}
use Rattle.proto_base.specs.NameOrder.{NamesRise}
use Rattle.std.proofs.lemmas.Map.Views.{Contains-from_any, list_any-from_Contains}
use Rattle.std.proofs.lemmas.List.Folds.{list_any-append}
use Rattle.source_search.specs.Shelves.{Known}
use Rattle.source_folder.proofs.Named.{unmapped}

pub same_bytes : (xs ys : List ℕ) → bytes_eq xs ys ≡ true → xs ≡ ys
same_bytes xs ys = (bytes_eq-Decides xs ys).0

pub bytes_same : (xs ys : List ℕ) → xs ≡ ys → bytes_eq xs ys ≡ true
bytes_same xs ys = (bytes_eq-Decides xs ys).1

-- names that rise differ
pub rising_differ : (names : List (List ℕ)) → NamesRise names → IsDistinct bytes_eq names
rising_differ names rising = subst (λ e. IsDistinct e names) (λ i x y. is_eq-slice_cmp x y i)
    (IsDistinct-from_sorted (slice_cmp nat_cmp) names (sorted_from_all_adjacent nat_list_cmp_total names [] rising))

less_from : (forth back : Ordering) → forth ≡ ordering_reverse back → is_lt back ≡ false → (forth ≡ Equal → ⊥)
    → forth ≡ Less
less_from forth Less turned low apart = absurd (false≢true (sym low))
less_from forth Equal turned low apart = absurd (apart turned)
less_from forth Greater turned low apart = turned

-- sorted names that differ rise
pub sorted_rise : (sources : List NamedText) → IsSortedByKey name_of (slice_cmp nat_cmp) sources
    → IsDistinct bytes_eq (names_of sources)
    → NamesRise (names_of sources)
sorted_rise [] sorted apart k h = absurd (omega (arith, h))
sorted_rise (s ∷ ss) sorted apart k h =
    let inside : k + 1 < length (s ∷ ss) = omega (arith, h, length-map (s ∷ ss) name_of) in
    let name : ℕ → List ℕ = λ i. get_or (names_of (s ∷ ss)) i [] in
    less_from _ _ (nat_list_cmp_total.antisymm (name k) (name (k + 1)))
    ((λ i. is_lt (slice_cmp nat_cmp (get_or-map name_of (s ∷ ss) (k + 1) s [] inside i)
    (get_or-map name_of (s ∷ ss) k s [] (omega (arith, inside)) i))) ∙ sorted k s (omega arith) inside)
    (λ same. true≢false (sym (bytes_same (name k) (name (k + 1)) (exact_bytes (name k) (name (k + 1)) same))
    ∙ apart_from_distinct bytes_eq (names_of (s ∷ ss)) k (k + 1) [] apart (omega arith) h))

-- the names of sources by their names and bytes
pub same_names : (sources : List NamedText) → map name_in (map named_bytes sources) ≡ names_of sources
same_names [] = refl
same_names (s ∷ sources) = ap (λ names. name_of s ∷ names) (same_names sources)

-- sources in another order still differ by name
pub permuted_differ : (old new : List NamedText) → IsPermutation old new
    → IsDistinct bytes_eq (map name_in (map named_bytes old))
    → IsDistinct bytes_eq (names_of new)
permuted_differ old new moved apart = IsDistinct-IsPermutation bytes_eq nat_list_eq_equiv.symm (names_of old)
    (names_of new) (IsPermutation-map name_of old new moved)
    (subst (λ names. IsDistinct bytes_eq names) (same_names old) apart)

-- whether a name is one of these
abbrev pub is_among : List (List ℕ) → List ℕ → Bool
is_among names name = list_any (bytes_eq name) names

-- one more name
pub among_more : (texts : List NamedText) (i : ℕ) (x : NamedText) (old new : List ℕ → Bool) → i < length texts
    → x ≡ get_or texts i x
    → ((name : List ℕ) → old name ≡ is_among (names_of (take i texts)) name)
    → ((name : List ℕ) → new name ≡ (if bytes_eq (name_of x) name then true else old name))
    → (name : List ℕ) → new name ≡ is_among (names_of (take (i + 1) texts)) name
among_more texts i x old new h is before now name =
    grind (arith, common_steps, list_any-append, map_more, nat_list_eq_equiv)

pub started : (limits : Limits) (known : Known) (given : List NamedText) (asked : List ℕ → Bool)
    → NamesRise (names_of given)
    → ((name : List ℕ) → asked name ≡ is_among (names_of given) name)
    → IsSearched limits known (map named_bytes given) (map named_bytes given) asked
started limits known given asked rising is = record {
  given_in = All-contains_itself (map named_bytes given);
  asked_for = All-map (λ (source : NamedBytes). asked source.0 ≡ true) named_bytes given
      (unmapped name_of (λ name. asked name ≡ true) given
      (all_of (λ name. asked name ≡ true) (names_of given) (λ name there. is name
      ∙ list_any-from_Contains nat_list_eq_equiv name (names_of given) there)));
  once = subst (λ names. IsDistinct bytes_eq names) (sym (same_names given)) (rising_differ (names_of given) rising);
  wanted = λ lookup at.
      all_of (λ (source : NamedBytes). IsWanted limits lookup (map named_bytes given) source.0 source.1)
      (map named_bytes given)
      (λ source there. is_given source.0 source.1 there);
  found = λ lookup at name text h free has. absurd (free (subst (λ names. Contains names name) (sym (same_names given))
      (Contains-from_any same_bytes name (names_of given) (sym (is name) ∙ h))));
}
