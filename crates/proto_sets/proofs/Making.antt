-- What a set is read as is coherent.
use Rattle.std.proofs.Common.{◌≡◌, ap, ℕ, ◌<◌, ◌≤◌, List, map, length, arith, refl, All, Contains, filter}
use Rattle.std.proofs.lemmas.List.{length-map}
use Rattle.std.proofs.lemmas.List.Elements.{All-contains, All-filter, All-map}
use Rattle.std.proofs.lemmas.List.Sorted.{All-permutation, length_permutation}
use Rattle.std.proofs.lemmas.List.Sums.{count_by-le-length, length-filter}
use Rattle.proto_base.specs.Limits.{limit_of}
use Rattle.proto_base.specs.declared.limits.Limit.TheVariants as limit
use Rattle.proto_base.specs.declared.limits.Limits.{Limits}
use Rattle.proto_base.specs.NameOrder.{NamesRise}
use Rattle.proto_compilation.specs.Compilation.{Compilation, CompiledFile}
use Rattle.proto_compilation.specs.Parts.{extended}
use Rattle.proto_compilation.specs.Extensions.{DeclaredExtension}
use Rattle.proto_compilation.specs.Sound.{IsCoherent}
use Rattle.proto_desc.specs.declared.file.FileDesc.{FileDesc}
use Rattle.proto_links.proofs.Whole.{whole_of}
use Rattle.proto_links.specs.Imports as imports
use Rattle.proto_links.specs.Linked.{AreLinked, Linked}
use Rattle.proto_names.proofs.Once.{declared_once}
use Rattle.proto_names.specs.Index.{Index, IndexesNames, is_service_kind, services_of}
use Rattle.proto_names.specs.Index as index_names
use Rattle.proto_names.specs.Occurrences.{Occurrence}
use Rattle.proto_sets.specs.Extensions.{AreTabled}
use Rattle.proto_sets.specs.Says.{ExtensionAt}
use Rattle.proto_sets.specs.SetSteps.{AreWalked}
use Rattle.proto_sets.specs.Sets.{AreByName, IsOfSet, IsShortName, SetSays, depth_of, head_of, names_from}
use Rattle.proto_sets.proofs.Extended.{fewer, tabled_inside}
use Rattle.proto_sets.proofs.NamesFrom.{names_inside}
use Rattle.proto_sets.proofs.OneSet.{named_each, zipped_heads}

-- the services of an index of short names
services_short : (limits : Limits) (names : List Occurrence) (count : ℕ) (index : Index)
    → All (IsShortName limits) names → IndexesNames count names limits index → (name : List ℕ)
    → Contains index.services name → length name ≤ limit_of limits limit.FullNameBytes
services_short limits names count index short is name has =
    let os = index.occurrences in
    let each = All-permutation (IsShortName limits) names os is.all short in
    let listed = All-map (λ n. length n ≤ limit_of limits limit.FullNameBytes) index_names.name_of
    (filter (λ o. is_service_kind o.kind) os) (All-filter (λ o. is_service_kind o.kind) (IsShortName limits) os each) in
    All-contains (λ n. length n ≤ limit_of limits limit.FullNameBytes) index.services name
    (All-permutation (λ n. length n ≤ limit_of limits limit.FullNameBytes) (services_of os) index.services
    is.sound.services listed) has

pub coherent : (limits : Limits) (set : List ℕ) (c : Compilation) → IsOfSet limits set c → IsCoherent c
coherent limits set c is =
    let by_name = is.says.by_name in
    let names = names_from 0 is.contents in
    let (size, same) = zipped_heads (depth_of limits) c.files is.contents (named_each by_name) is.says.each in
    let services = is.indexed.sound.services in
    let same_count : length c.files ≡ length is.contents = size in
    rw is.same_limits (record {
      few = omega (arith, length_permutation by_name.placed c.files by_name.all, by_name.are.few);
      rises = by_name.rises;
      linked = omega (arith, is.linked.count, length-map is.contents head_of, size);
      reaches = whole_of (map head_of is.contents) c.links is.linked;
      indexed = is.indexed.files;
      names = is.indexed.sound;
      declared = declared_once c.index (length c.files) names limits is.indexed;
      few_services = grind (
        arith,
        is.indexed.within,
        length_permutation names c.index.occurrences is.indexed.all,
        length_permutation (services_of c.index.occurrences) c.index.services services,
        length-map,
        count_by-le-length,
        length-filter,
      );
      short_services = services_short limits names (length c.files) c.index is.short_names is.indexed;
      extensions_rise = is.extensions.rise;
      few_extensions = omega (
        arith,
        is.extensions.few,
        fewer 0 is.contents,
        is.indexed.within,
        length_permutation names c.index.occurrences is.indexed.all,
      );
      extensions_within = λ e has. rw same_count (tabled_inside is.contents c.extensions is.extensions e has);
    })

-- what the passes give is of the set
pub read_by : (limits : Limits) (set : List ℕ) (files table : List CompiledFile) (names : List Occurrence)
    (extensions : List ExtensionAt) (heads : List FileDesc) (tabled : List DeclaredExtension) (links : Linked)
    (index : Index) → AreByName limits set files → AreWalked (depth_of limits) files names extensions heads
    → All (IsShortName limits) names → AreLinked heads links → IndexesNames (length heads) names limits index
    → table ≡ files → AreTabled extensions tabled → IsOfSet limits set (extended limits table links index tabled)
read_by limits set files table names extensions heads tabled links index by_name walked short linked indexed same are =
    let says : SetSays limits set files walked.contents = record { by_name = by_name; each = walked.each } in
    let size = (zipped_heads (depth_of limits) files walked.contents (named_each by_name) walked.each).0 in
    let count : length heads ≡ length files =
    omega (arith, ap length walked.heads_are, length-map walked.contents head_of, size) in
    rw same (record {
      contents = walked.contents;
      says = says;
      short_names = rw walked.names_are at short;
      linked = rw walked.heads_are at linked;
      indexed = rw (count, walked.names_are) at indexed;
      same_limits = refl;
      extensions = rw walked.extensions_are at are;
    })

-- and their names rise
pub heads_rise : (limits : Limits) (set : List ℕ) (files : List CompiledFile) (names : List Occurrence)
    (extensions : List ExtensionAt) (heads : List FileDesc) → AreByName limits set files
    → AreWalked (depth_of limits) files names extensions heads → NamesRise (map imports.name_of heads)
heads_rise limits set files names extensions heads by_name walked =
    let same = (zipped_heads (depth_of limits) files walked.contents (named_each by_name) walked.each).1 in
    rw (walked.heads_are, ← same) by_name.rises

-- each name stands in one of the files
pub names_among : (depth : ℕ) (files : List CompiledFile) (names : List Occurrence) (extensions : List ExtensionAt)
    (heads : List FileDesc) → AreWalked depth files names extensions heads
    → All (λ (o : Occurrence). o.file < length heads) names
names_among depth files names extensions heads walked =
    rw walked.names_are (λ k d h. omega (
      arith,
      (names_inside 0 walked.contents k d h).1,
      ap length walked.heads_are,
      length-map walked.contents head_of,
    ))
