-- What sources are compiled to is sound.
use Rattle.proto_compile.proofs.Common.{◌≡◌, ◌∙◌, sym, ap, subst, refl, ℕ, ◌<◌, ◌≤◌, List, map, length, arith, All, ◌+◌, Bool, true, inl, inr, [], ◌∷◌, get_or, Option, Some, None, Contains, IsPermutation, filter, AllZip, length-map, get_or_default, FileDesc, Linked, count_of, Index, Indexes, services_of, is_service_kind, Limits, file_desc_bytes, AreResolved, Compilation, CompiledFile, IsCompiled, IsShort, IsWritten, file_bytes, file_name, SourceDescribes, compilation, Source, cases_lt, false≢true, All-append, All-contains, All-map, All-nil, All-permutation, Contains-permutation, IsPermutation-sym, length_permutation, count_by-le-length, length-filter, spot, declared_by, full_name, Occurrence, declared_occurrence, occurrences, occurrences_from, occurrences_of, package_occurrence, package_occurrences}
use Rattle.proto_links.specs.Imports as imports
use Rattle.proto_names.specs.Index as index_names
use Rattle.proto_base.specs.Limits.{limit_of}
use Rattle.proto_base.specs.declared.limits.Limit.TheVariants as limit
use Rattle.proto_compilation.specs.Sound.{IsCoherent, IsSound}
use Rattle.proto_links.proofs.Whole.{whole_of}
use Rattle.proto_names.proofs.Once.{declared_once}
use Rattle.proto_compile.specs.Sources.{name_of}
use Rattle.proto_compile.proofs.OneTyping as zipped
use Rattle.proto_checks.specs.Checks.{FileBreaks}
use Rattle.proto_desc.specs.declared.file.PackageDescriptor.{PackageDescriptor}
use Rattle.proto_names.specs.Scopes.{prefixes}
use Rattle.proto_base.specs.declared.kind.Kind.TheVariants as kind
use Rattle.share_work.proofs.Sums.{of_filter, of_map}

-- ---- the names of services: no more than those of the files, and none longer than a full name may be

abbrev is_service : Occurrence → Bool
is_service o = is_service_kind o.kind

-- a service has a name of no more bytes
abbrev IsShortService : ℕ → Occurrence → Type 0
IsShortService n o = is_service o ≡ true → length o.name ≤ n

-- ---- what files declare

package_short : (n file : ℕ) (p : Option PackageDescriptor) → All (IsShortService n) (package_occurrences file p)
package_short n file None = All-nil (IsShortService n)
package_short n file (Some p) = All-map (IsShortService n) (package_occurrence file p.place) (prefixes p.name)
    (λ k d h service. absurd (false≢true service))

module _ (limits : Limits) where
  abbrev Fits : Occurrence → Type 0
  Fits = IsShortService (limit_of limits limit.FullNameBytes)

  file_short : (a : ℕ) (s : Source) (desc : FileDesc) → SourceDescribes limits s desc → All Fits (occurrences_of a desc)
  unfolding FileBreaks
  file_short a s desc (file, is, unbroken, made) =
      All-append Fits (package_occurrences a desc.«package») (map (declared_occurrence a) (declared_by desc))
      (package_short (limit_of limits limit.FullNameBytes) a desc.«package»)
      (All-map Fits (declared_occurrence a) (declared_by desc) (λ k d h service. (
      let e = get_or (declared_by desc) k d in
      let stands = subst (λ (f : FileDesc). (k < length (declared_by f)) × (get_or (declared_by f) k e ≡ e)) made
      (h, get_or_default (declared_by desc) k e d h) in
      elim (cases_lt (limit_of limits limit.FullNameBytes) (length (full_name e))) [
        | inl long ↦ absurd (unbroken (spot e.place kind.NameTooLong) (inr (inr (k, e, stands, (inr long, refl)))))
        | inr most ↦ most
      ])))

  files_short : (a : ℕ) (files : List Source) (descs : List FileDesc) → AllZip (SourceDescribes limits) files descs
      → All Fits (occurrences_from a descs)
  files_short a [] [] all = All-nil Fits
  files_short a (s ∷ files) (desc ∷ descs) all =
      All-append Fits (occurrences_of a desc) (occurrences_from (a + 1) descs) (file_short a s desc all.0)
      (files_short (a + 1) files descs all.1)
  files_short a files descs all = absurd all

  -- ---- the services of an index

  index_short : (files : List Source) (descs : List FileDesc) (index : Index)
      → AllZip (SourceDescribes limits) files descs → Indexes descs limits index
      → IsPermutation (services_of index.occurrences) index.services
      → (name : List ℕ) → Contains index.services name → length name ≤ limit_of limits limit.FullNameBytes
  index_short files descs index all is services name has =
      let back = IsPermutation-sym (services_of index.occurrences) index.services services in
      let (o, here, same) = of_map index_names.name_of (filter is_service index.occurrences) name
      (Contains-permutation index.services (services_of index.occurrences) name back has) in
      let (within, service) = of_filter is_service index.occurrences o here in
      let short = All-permutation Fits (occurrences descs) index.occurrences is.all (files_short 0 files descs all) in
      rw (← same) (All-contains Fits index.occurrences o short within service)

-- ---- what the passes give

-- what links and the index count
pub counts : (limits : Limits) (sources sorted : List Source) (descs : List FileDesc) (links : Linked) (index : Index)
    (files : List CompiledFile) → AreResolved limits sources sorted descs links index
    → map file_name files ≡ map name_of sorted → (count_of links ≡ length files) × (index.files ≡ length files)
counts limits sources sorted descs links index files resolved names =
    let is = resolved.analysed in
    let size = zipped.same_length limits sorted resolved.descs is.described.each in
    let many = zipped.as_many file_name name_of files sorted names in (
      omega (arith, size, many, is.linked.count),
      omega (arith, size, many, is.indexed.files),
    )

-- as many descriptors as sources
pub descs_for_each : {limits : Limits} {sources sorted : List Source} {descs : List FileDesc} {links : Linked}
    {index : Index} → AreResolved limits sources sorted descs links index → length sorted ≡ length descs
descs_for_each {sorted = sorted} {descs = descs} r =
    zipped.as_many name_of imports.name_of sorted descs (sym (zipped.resolved_names r))

-- what is written of them, where the last passes take what those gave
pub written_of : {limits : Limits} {sources sorted named : List Source} {descs : List FileDesc} {links : Linked}
    {index : Index} {files : List CompiledFile} → AreResolved limits sources sorted descs links index
    → All (IsShort limits) descs → named ≡ sorted → map file_name files ≡ map name_of named
    → map file_bytes files ≡ map file_desc_bytes descs → IsWritten limits sources (compilation limits files links index)
written_of {sorted = sorted} {descs = descs} resolved short same_names names bytes = record {
  sorted = sorted;
  descs = descs;
  resolved = resolved;
  short = short;
  names = names ∙ ap (map name_of) same_names;
  bytes = bytes;
  no_extensions = refl;
  same_limits = refl;
}

pub coherent : (sources : List Source) (c : Compilation) → IsWritten c.limits sources c → IsCoherent c
coherent sources c is =
    let limits = c.limits in
    let files = c.files in
    let links = c.links in
    let index = c.index in
    let analysed = is.resolved.analysed in
    let described = analysed.described in
    let indexed = analysed.indexed in
    let services = indexed.sound.services in
    let counted = counts limits sources is.sorted is.descs links index files is.resolved is.names in
    record {
      few = omega (
        arith,
        length_permutation sources is.sorted described.by_name.all,
        described.few,
        zipped.as_many file_name name_of files is.sorted is.names,
      );
      rises = rw is.names described.by_name.rises;
      linked = counted.0;
      reaches = whole_of is.resolved.descs links analysed.linked;
      indexed = counted.1;
      names = indexed.sound;
      declared = declared_once index (length is.resolved.descs) (occurrences is.resolved.descs) limits indexed;
      few_services = grind (arith, length_permutation, length-map, count_by-le-length, length-filter);
      short_services = index_short limits is.sorted is.resolved.descs index described.each indexed services;
      extensions_rise = rw is.no_extensions (λ i j d before below. absurd (omega arith));
      few_extensions = rw is.no_extensions (omega arith);
      extensions_within = rw is.no_extensions (λ e has. absurd (let below = has.1 in omega arith));
    }

pub sound : (limits : Limits) (sources : List Source) (c : Compilation) → IsCompiled limits sources c → IsSound c
sound limits sources c is =
    let own : IsCompiled c.limits sources c = subst (λ l. IsCompiled l sources c) (sym is.written.same_limits) is in
    record { coherent = coherent sources c own.written; within = own.within }
