-- What a set is read as, asked in any way.
use Rattle.std.proofs.Common.{◌≡◌, ◌∙◌, sym, ℕ, ◌+◌, ◌<◌, List, [], ◌∷◌, length, map, refl, arith, Bool, filter, cond, Contains, ◌==◌, sum_by, eqb-true}
use Rattle.std.proofs.lemmas.List.{length-map}
use Rattle.std.proofs.lemmas.List.Elements.{filter_agree}
use Rattle.std.proofs.lemmas.List.Sorted.{sum_by-IsPermutation}
use Rattle.std.proofs.lemmas.List.Sums.{sum_by-cons}
use Rattle.std.specs.Set.{is_member}
use Rattle.std.specs.Cmp.{nat_eq_equiv}
use Rattle.std.proofs.lemmas.Map.Views.{Contains-from_any, list_any-from_Contains}
use Rattle.proto_base.specs.declared.limits.Limits.{Limits}
use Rattle.proto_compilation.specs.Alike.{AreAlike}
use Rattle.proto_compilation.specs.Compilation.{Compilation}
use Rattle.proto_compilation.specs.Sound.{IsSound}
use Rattle.proto_desc.specs.declared.file.FileDesc.{FileDesc}
use Rattle.proto_links.proofs.Unique.{one_set_order}
use Rattle.proto_links.proofs.Whole.{whole_of}
use Rattle.proto_links.specs.Linked.{AreLinked, Linked, reach_of}
use Rattle.proto_names.specs.Index.{Index, IndexesNames, is_service_kind, name_of, services_of}
use Rattle.proto_names.specs.Occurrences.{Occurrence}
use Rattle.proto_sets.specs.Sets.{IsOfSet, depth_of, extensions_from, head_of, names_from}
use Rattle.proto_sets.proofs.Extended.{one_table}
use Rattle.proto_sets.proofs.Making.{coherent}
use Rattle.proto_sets.proofs.OneSet.{named_each, one_saying, zipped_heads}
use Rattle.proto_sets.proofs.Sorting.{moved, one_sorted}
use Rattle.proto_sets.proofs.Within.{set_within}

-- ---- services

-- a name that is counted where it is a service's
abbrev counted : (List ℕ → ℕ) → Occurrence → ℕ
counted f o = cond (is_service_kind o.kind) (f o.name) 0

counted_step : (f : List ℕ → ℕ) (o : Occurrence) (os : List Occurrence) (b : Bool)
    → sum_by f (services_of os) ≡ sum_by (counted f) os
    → sum_by f (map name_of (cond b (o ∷ filter (λ p. is_service_kind p.kind) os)
    (filter (λ p. is_service_kind p.kind) os))) ≡ cond b (f o.name) 0 + sum_by (counted f) os
counted_step f o os b rest = grind (arith, sum_by-cons)

counted_services : (f : List ℕ → ℕ) (os : List Occurrence) → sum_by f (services_of os) ≡ sum_by (counted f) os
counted_services f [] = refl
counted_services f (o ∷ os) = counted_step f o os (is_service_kind o.kind) (counted_services f os)
    ∙ sym (sum_by-cons (counted f) o os)

-- the services of an index, counted among what occurs in the files
all_services : (f : List ℕ → ℕ) (count : ℕ) (names : List Occurrence) (limits : Limits) (index : Index)
    → IndexesNames count names limits index → sum_by f index.services ≡ sum_by (counted f) names
all_services f count names limits index is = grind (
  arith,
  sum_by-IsPermutation f (services_of index.occurrences) index.services is.sound.services,
  counted_services f index.occurrences,
  sum_by-IsPermutation (counted f) names index.occurrences is.all,
)

-- ---- what files reach

has_alike : (g : ℕ) (xs ys : List ℕ) → (Contains xs g → Contains ys g) → (Contains ys g → Contains xs g)
    → is_member ◌==◌ xs g ≡ is_member ◌==◌ ys g
has_alike g xs ys to back = grind (arith, Contains-from_any eqb-true g, list_any-from_Contains nat_eq_equiv g)

one_reach : (descs : List FileDesc) (links others : Linked) → AreLinked descs links → AreLinked descs others
    → links.set_order ≡ others.set_order → (a : ℕ) → a < length descs → reach_of links a ≡ reach_of others a
one_reach descs links others first second order a below =
    let mine = (first.reach a below).members in
    let theirs = (second.reach a below).members in
    let agree = filter_agree (is_member ◌==◌ (reach_of links a)) (is_member ◌==◌ (reach_of others a))
    (λ b. has_alike b (reach_of links a) (reach_of others a) (λ w. (theirs b).1 ((mine b).0 w))
    (λ w. (mine b).1 ((theirs b).0 w))) links.set_order in
    let part = (whole_of descs links first).part a (omega (arith, below, first.count)) in
    let other = (whole_of descs others second).part a (omega (arith, below, second.count)) in
    cc (part, agree, order, other)

-- ---- compilations

pub alike : (limits : Limits) (set : List ℕ) (c d : Compilation) → IsOfSet limits set c → IsOfSet limits set d
    → AreAlike c d
alike limits set c d first second =
    let (files, contents) = one_saying first.says second.says in
    let heads = map head_of first.contents in
    let names = names_from 0 first.contents in
    let linked : AreLinked heads d.links = rw (← contents) at second.linked in
    let indexed : IndexesNames (length d.files) names limits d.index = rw (← contents) at second.indexed in
    let order = one_set_order heads c.links d.links first.linked linked in
    let size = (zipped_heads (depth_of limits) c.files first.contents (named_each first.says.by_name) first.says.each).0 in
    record {
      files = files;
      set_order = order;
      reach = λ a below. one_reach heads c.links d.links first.linked linked order a
          (omega (arith, below, size, length-map first.contents head_of));
      occurrences = λ o. (moved first.indexed.all indexed.all o, moved indexed.all first.indexed.all o);
      services = one_sorted c.index.services d.index.services (λ k e h. first.indexed.sound.order k e (omega arith) h)
          (λ k e h. indexed.sound.order k e (omega arith) h)
          (λ f. all_services f (length c.files) names limits c.index first.indexed
          ∙ sym (all_services f (length d.files) names limits d.index indexed));
      extensions = one_table (extensions_from 0 first.contents) c.extensions d.extensions first.extensions
          (rw (← contents) at second.extensions);
      limits = first.same_limits ∙ sym second.same_limits;
    }

pub sound : (limits : Limits) (set : List ℕ) (c : Compilation) → IsOfSet limits set c → IsSound c
sound limits set c is = record {
  coherent = coherent limits set c is;
  within = rw is.same_limits (omega (arith, set_within limits set c is, is.says.by_name.are.short));
}
