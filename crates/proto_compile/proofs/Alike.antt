-- What sources are compiled to, asked in any way.
use Rattle.proto_compile.proofs.Common.{◌≡◌, ◌∙◌, sym, ℕ, ◌+◌, ◌<◌, List, [], ◌∷◌, length, map, refl, arith, Bool, filter, cond, Contains, ◌==◌, sum_by, eqb-true, filter_agree, sum_by-IsPermutation, sum_by-cons, Limits, FileDesc, AreLinked, Linked, reach_of, Index, Indexes, is_service_kind, services_of, Occurrence, occurrences, Compilation, IsCompiled, Source}
use Rattle.std.specs.Set.{is_member}
use Rattle.std.specs.Cmp.{nat_eq_equiv}
use Rattle.std.proofs.lemmas.Map.Views.{Contains-from_any, list_any-from_Contains}
use Rattle.proto_links.proofs.Whole.{whole_of}
use Rattle.proto_names.specs.Index.{name_of}
use Rattle.proto_compilation.specs.Alike.{AreAlike}
use Rattle.proto_compile.proofs.OneCompilation.{one_written}
use Rattle.proto_compile.proofs.OneTyping.{one_analysed, as_many, same_length}
use Rattle.proto_compile.proofs.Sorting.{moved, one_sorted}

-- ---- services

-- a name that is counted where it is a service's
abbrev counted : (List ℕ → ℕ) → Occurrence → ℕ
counted f o = cond (is_service_kind o.kind) (f o.name) 0

counted_step : (f : List ℕ → ℕ) (o : Occurrence) (os : List Occurrence) (b : Bool)
    → sum_by f (services_of os) ≡ sum_by (counted f) os
    → sum_by f (map name_of (cond b (o ∷ filter (λ p. is_service_kind p.kind) os)
    (filter (λ p. is_service_kind p.kind) os))) ≡ cond b (f o.name) 0 + sum_by (counted f) os
counted_step f o os b rest = grind (arith, sum_by-cons)

counted_services : (f : List ℕ → ℕ) (os : List Occurrence) → sum_by f (services_of os) ≡ sum_by (counted f) os
counted_services f [] = refl
counted_services f (o ∷ os) = counted_step f o os (is_service_kind o.kind) (counted_services f os)
    ∙ sym (sum_by-cons (counted f) o os)

-- the services of an index, counted among what occurs in the files
all_services : (f : List ℕ → ℕ) (descs : List FileDesc) (limits : Limits) (index : Index)
    → Indexes descs limits index → sum_by f index.services ≡ sum_by (counted f) (occurrences descs)
all_services f descs limits index is = grind (
  arith,
  sum_by-IsPermutation f (services_of index.occurrences) index.services is.sound.services,
  counted_services f index.occurrences,
  sum_by-IsPermutation (counted f) (occurrences descs) index.occurrences is.all,
)

-- ---- what files reach

has_alike : (g : ℕ) (xs ys : List ℕ) → (Contains xs g → Contains ys g) → (Contains ys g → Contains xs g)
    → is_member ◌==◌ xs g ≡ is_member ◌==◌ ys g
has_alike g xs ys to back = grind (arith, Contains-from_any eqb-true g, list_any-from_Contains nat_eq_equiv g)

one_reach : (descs : List FileDesc) (links others : Linked) → AreLinked descs links → AreLinked descs others
    → links.set_order ≡ others.set_order → (a : ℕ) → a < length descs → reach_of links a ≡ reach_of others a
one_reach descs links others first second order a below =
    let mine = (first.reach a below).members in
    let theirs = (second.reach a below).members in
    let agree = filter_agree (is_member ◌==◌ (reach_of links a)) (is_member ◌==◌ (reach_of others a))
    (λ b. has_alike b (reach_of links a) (reach_of others a) (λ w. (theirs b).1 ((mine b).0 w))
    (λ w. (mine b).1 ((theirs b).0 w))) links.set_order in
    let part = (whole_of descs links first).part a (omega (arith, below, first.count)) in
    let other = (whole_of descs others second).part a (omega (arith, below, second.count)) in
    cc (part, agree, order, other)

-- ---- compilations

-- as many files as descriptors
pub described_count : (limits : Limits) (sources : List Source) (c : Compilation) (w : IsCompiled limits sources c)
    → length c.files ≡ length w.written.resolved.descs
described_count limits sources c w = grind (arith, as_many, same_length)

pub alike : (limits : Limits) (sources : List Source) (c d : Compilation) → IsCompiled limits sources c
    → IsCompiled limits sources d → AreAlike c d
alike limits sources c d first second =
    let one = one_written first.written second.written in
    let r = first.written.resolved in
    let (files, same, also) = one_analysed r.analysed second.written.resolved.analysed in
    let linked = r.analysed.linked in
    let indexed = r.analysed.indexed in
    let count = described_count limits sources c first in
    record {
      files = one.0;
      set_order = one.1;
      reach = λ a below. one_reach r.descs c.links d.links linked also.linked one.1 a (omega (arith, below, count));
      occurrences = λ o. (moved indexed.all also.indexed.all o, moved also.indexed.all indexed.all o);
      services = one_sorted c.index.services d.index.services (λ k e h. indexed.sound.order k e (omega arith) h)
          (λ k e h. also.indexed.sound.order k e (omega arith) h) (λ f. all_services f r.descs limits c.index indexed
          ∙ sym (all_services f r.descs limits d.index also.indexed));
      extensions = first.written.no_extensions ∙ sym second.written.no_extensions;
      limits = first.written.same_limits ∙ sym second.written.same_limits;
    }
