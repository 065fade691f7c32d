-- What the set of sources is read as, asked in any way.
use Rattle.std.proofs.Common.{◌≡◌, ◌∙◌, sym, ap, refl, ℕ, ◌+◌, ◌≤◌, List, [], ◌∷◌, length, map, filter, cond, Bool, IsPermutation, sum_by, subst, arith}
use Rattle.std.proofs.lemmas.List.Sorted.{Contains-permutation, IsPermutation-map, IsPermutation-sym, IsPermutation-trans, sum_by-IsPermutation}
use Rattle.std.proofs.lemmas.List.Sums.{sum_by-cons}
use Rattle.std.specs.List.{AllZip}
use Rattle.proto_base.specs.declared.limits.Limits.{Limits}
use Rattle.proto_compilation.specs.Compilation.{Compilation, CompiledFile, set_of}
use Rattle.proto_compile.proofs.Alike.{described_count}
use Rattle.proto_compile.specs.Analysed.{AreTypedFrom}
use Rattle.proto_compile.specs.Compiled.{IsCompiled}
use Rattle.proto_compile.specs.Descriptions.{SourceDescribes}
use Rattle.proto_compile.specs.Sources.{name_of, text_of}
use Rattle.proto_compile.specs.declared.source.Source.{Source}
use Rattle.proto_desc.specs.declared.file.FileDesc.{FileDesc}
use Rattle.proto_links.specs.Linked.{Linked}
use Rattle.proto_names.specs.Index.{Index, is_service_kind, services_of}
use Rattle.proto_names.specs.Index as index_names
use Rattle.proto_names.specs.Occurrences.{Occurrence, occurrences}
use Rattle.proto_sets.proofs.Sorting.{one_sorted}
use Rattle.proto_sets.specs.Sets.{Contents, FileSays, IsOfSet, SaysFile, depth_of, extensions_from, head_of, names_from}
use Rattle.proto_types.specs.Typed.{IsTypedFile}
use Rattle.wire_bytes.specs.Descriptor.{file_desc_bytes}
use Rattle.set_round_trip.specs.ButPlaces.{AreAlikeButPlaces, at_start}
use Rattle.set_round_trip.proofs.CompiledFiles.{files_are, files_read}
use Rattle.set_round_trip.proofs.FileContents.{Agree, agree, all_names, heads_agree, no_extensions, placed_packages}
use Rattle.set_round_trip.proofs.Imports.{import_marks}
use Rattle.set_round_trip.proofs.Packages.{HasNamedPackage, named_package}
use Rattle.set_round_trip.proofs.SameFiles.{IsFileOf}
use Rattle.set_round_trip.proofs.SameLinks.{linked_on, same_order, same_reach, same_size}
use Rattle.set_round_trip.proofs.Saying.{as_said}
use Rattle.set_round_trip.proofs.Typing.{declares_same}

-- ---- descriptors, with their types resolved or not

typed_named : (desc typed : FileDesc) → typed.«package» ≡ desc.«package» → HasNamedPackage desc → HasNamedPackage typed
typed_named desc typed same is = record { named = λ p at. is.named p (sym same ∙ at) }

untyped : (os : List Occurrence) (Seen : ℕ → Type 0) (desc typed : FileDesc) (c : Contents)
    → IsTypedFile os Seen desc typed → Agree typed c → Agree desc c
untyped os Seen desc typed c is agreed =
    let name : typed.name ≡ desc.name = ap (λ (d : FileDesc). d.name) is.same in
    let imports : import_marks typed ≡ import_marks desc = ap import_marks is.same in
    let packages : (a : ℕ) → placed_packages a typed.«package» ≡ placed_packages a desc.«package» =
    λ a. ap (λ (d : FileDesc). placed_packages a d.«package») is.same in
    record {
      name = agreed.name ∙ name;
      imports = agreed.imports ∙ imports;
      starts = agreed.starts;
      packages = λ a. agreed.packages a ∙ packages a;
      said = subst (λ ds. IsPermutation c.said (map as_said ds)) (declares_same os Seen desc typed is) agreed.said;
    }

-- the descriptors of sources agree with what is read of their files
module _ (limits : Limits) (depth : ℕ) (links : Linked) (index : Index) where
  pub all_agree : (a : ℕ) (sources : List Source) (descs typed : List FileDesc) (files : List CompiledFile)
      (contents : List Contents) → AllZip (SourceDescribes limits) sources descs
      → AreTypedFrom links index a descs typed → AllZip IsFileOf files typed → AllZip (FileSays depth) files contents
      → AllZip Agree descs contents
  all_agree a [] [] [] [] [] described resolved are says = tt
  all_agree a (s ∷ sources) (d ∷ descs) (t ∷ typed) (f ∷ files) (c ∷ contents) described resolved are says =
      let is = resolved.0.resolved in
      let own = named_package limits (name_of s) (text_of s) d described.0 in
      let same : t.«package» ≡ d.«package» = ap (λ (d : FileDesc). d.«package») is.same in
      let said : SaysFile depth (file_desc_bytes t) c =
      subst (λ bytes. SaysFile depth bytes c) are.0.bytes says.0 in (
        untyped _ _ d t c is (agree depth t c (typed_named d t same own) said),
        all_agree (a + 1) sources descs typed files contents described.1 resolved.1 are.1 says.1,
      )
  all_agree a sources descs typed files contents described resolved are says = grind arith

-- ---- services

-- a name that is counted where it is a service's
abbrev counted : (List ℕ → ℕ) → Occurrence → ℕ
counted f o = cond (is_service_kind o.kind) (f o.name) 0

counted_step : (f : List ℕ → ℕ) (o : Occurrence) (os : List Occurrence) (b : Bool)
    → sum_by f (services_of os) ≡ sum_by (counted f) os
    → sum_by f (map index_names.name_of (cond b (o ∷ filter (λ p. is_service_kind p.kind) os)
    (filter (λ p. is_service_kind p.kind) os))) ≡ cond b (f o.name) 0 + sum_by (counted f) os
counted_step f o os b rest = grind (arith, sum_by-cons)

counted_services : (f : List ℕ → ℕ) (os : List Occurrence) → sum_by f (services_of os) ≡ sum_by (counted f) os
counted_services f [] = refl
counted_services f (o ∷ os) = counted_step f o os (is_service_kind o.kind) (counted_services f os)
    ∙ sym (sum_by-cons (counted f) o os)

counted_at_start : (f : List ℕ → ℕ) (os : List Occurrence)
    → sum_by (counted f) (map at_start os) ≡ sum_by (counted f) os
counted_at_start f [] = refl
counted_at_start f (o ∷ os) = omega (
  arith,
  sum_by-cons (counted f) (at_start o) (map at_start os),
  sum_by-cons (counted f) o os,
  counted_at_start f os,
)

counted_index : (f : List ℕ → ℕ) (index : Index) → index_names.IsSound index
    → sum_by f index.services ≡ sum_by (counted f) (map at_start index.occurrences)
counted_index f index is = omega (
  arith,
  sum_by-IsPermutation f (services_of index.occurrences) index.services is.services,
  counted_services f index.occurrences,
  counted_at_start f index.occurrences,
)

-- the same names, services in order: the same services
same_services : (index other : Index) → index_names.IsSound index → index_names.IsSound other
    → IsPermutation (map at_start index.occurrences) (map at_start other.occurrences) → index.services ≡ other.services
same_services index other first second moved =
    one_sorted index.services other.services (λ k e h. first.order k e (omega arith) h)
    (λ k e h. second.order k e (omega arith) h)
    (λ f. counted_index f index first
    ∙ sym (sum_by-IsPermutation (counted f) (map at_start index.occurrences) (map at_start other.occurrences) moved)
    ∙ sym (counted_index f other second))

-- ---- compilations

-- a list that is no longer than none
nothing_in : {X : Type 0} (xs : List X) → length xs ≤ 0 → xs ≡ []
nothing_in [] few = refl
nothing_in (x ∷ xs) few = absurd (omega (arith, few))

pub alike : (limits : Limits) (sources : List Source) (c d : Compilation) → IsCompiled limits sources c
    → IsOfSet limits (set_of c.files c.links) d → AreAlikeButPlaces c d
alike limits sources c d first second =
    let w = first.written in
    let r = w.resolved in
    let count = described_count limits sources c first in
    let linked = r.analysed.linked in
    let indexed = r.analysed.indexed in
    let are = files_are limits sources c first in
    let files = files_read limits sources c first limits d.files second.says.by_name in
    let says = subst (λ fs. AllZip (FileSays (depth_of limits)) fs second.contents) (sym files) second.says.each in
    let agreed = all_agree limits (depth_of limits) c.links c.index 0 w.sorted r.descs w.descs c.files second.contents
    r.analysed.described.each r.each are says in
    let (names, imports) = heads_agree r.descs second.contents agreed in
    let heads = map head_of second.contents in
    let also = linked_on r.descs heads (sym names) (sym imports) c.links linked in
    let size : length heads ≡ length r.descs = same_size r.descs heads (sym names) (sym imports) in
    let said = names_from 0 second.contents in
    let moved : IsPermutation (map at_start c.index.occurrences) (map at_start d.index.occurrences) =
    IsPermutation-trans (map at_start c.index.occurrences) (map at_start (occurrences r.descs))
    (map at_start d.index.occurrences)
    (IsPermutation-sym (map at_start (occurrences r.descs)) (map at_start c.index.occurrences)
    (IsPermutation-map at_start (occurrences r.descs) c.index.occurrences indexed.all))
    (IsPermutation-trans (map at_start (occurrences r.descs)) (map at_start said) (map at_start d.index.occurrences)
    (IsPermutation-sym (map at_start said) (map at_start (occurrences r.descs))
    (all_names 0 r.descs second.contents agreed))
    (IsPermutation-map at_start said d.index.occurrences second.indexed.all)) in
    let none : extensions_from 0 second.contents ≡ [] = no_extensions 0 r.descs second.contents agreed in
    record {
      files = files;
      set_order = same_order heads c.links d.links also second.linked;
      reach = λ a below. same_reach heads c.links d.links also second.linked a (omega (arith, below, count, size));
      occurrences = λ o. (
        Contains-permutation (map at_start c.index.occurrences) (map at_start d.index.occurrences) o moved,
        Contains-permutation (map at_start d.index.occurrences) (map at_start c.index.occurrences) o
            (IsPermutation-sym (map at_start c.index.occurrences) (map at_start d.index.occurrences) moved),
      );
      services = same_services c.index d.index indexed.sound second.indexed.sound moved;
      extensions = w.no_extensions
          ∙ sym (nothing_in d.extensions (omega (arith, second.extensions.few, ap length none)));
      limits = w.same_limits ∙ sym second.same_limits;
    }
