-- The set of sources is read, where each of its files is by itself and the limits of the reader are no lower.
use Rattle.std.proofs.Common.{◌≡◌, ◌∙◌, sym, ap, subst, refl, ℕ, zero, suc, ◌≤◌, Bool, true, false, cond, List, [], ◌∷◌, length, get_or, map, filter, filter_map, All, Contains, IsPermutation, arith}
use Rattle.std.proofs.lemmas.List.{length-map}
use Rattle.std.proofs.lemmas.List.Elements.{All-head, All-map, All-tail, All-weaker, Contains-get_or}
use Rattle.std.proofs.lemmas.List.Folds.{flat_map-map}
use Rattle.std.proofs.lemmas.List.Sorted.{All-permutation, IsPermutation-map, IsPermutation-sym, IsPermutation-trans, length_permutation}
use Rattle.std.specs.List.{AllZip}
use Rattle.proto_base.specs.Limits.{limit_of}
use Rattle.proto_base.specs.declared.limits.Limit.TheVariants as limit
use Rattle.proto_base.specs.declared.limits.Limits.{Limits}
use Rattle.proto_compilation.specs.Compilation.{Compilation, CompiledFile, bytes_at, file_bytes, set_of}
use Rattle.proto_compile.proofs.Alike.{described_count}
use Rattle.proto_compile.proofs.Making.{sound}
use Rattle.proto_compile.specs.Compiled.{IsCompiled, IsShort}
use Rattle.proto_compile.specs.declared.source.Source.{Source}
use Rattle.proto_desc.specs.declared.file.FileDesc.{FileDesc}
use Rattle.proto_links.proofs.Rising.{behind, front, none_in}
use Rattle.proto_links.proofs.Unique.{before_strict, order_rises}
use Rattle.proto_links.proofs.Whole.{whole_of}
use Rattle.proto_links.specs.Linked.{IsBefore, Linked, rank_of}
use Rattle.proto_names.specs.Index.{Index, IndexesNames, is_service_kind, services_of}
use Rattle.proto_names.specs.Index as index_names
use Rattle.proto_names.specs.Occurrences.{Occurrence, occurrences}
use Rattle.proto_sets.specs.Elements.{text_in, text_of}
use Rattle.proto_sets.specs.Extensions.{AreTabled}
use Rattle.proto_sets.specs.Says.{ExtensionAt}
use Rattle.proto_sets.specs.Sets.{AreByName, Contents, FileSays, IsNamedFile, IsOfSet, IsShortName, SaysFile, depth_of, extensions_from, head_of, names_from}
use Rattle.share_work.proofs.Sums.{of_map}
use Rattle.wire_format.proofs.ReadingRows.{written_row}
use Rattle.wire_format.specs.Reading.{IsRow}
use Rattle.wire_format.specs.Writing.{IsMessageField, entry_bytes}
use Rattle.set_round_trip.specs.ButPlaces.{at_start, index_at_start}
use Rattle.set_round_trip.specs.Fits.{IsName}
use Rattle.set_round_trip.specs.Readable.{AreNoLower}
use Rattle.set_round_trip.proofs.Alike.{all_agree}
use Rattle.set_round_trip.proofs.CompiledFiles.{every_file, files_are}
use Rattle.set_round_trip.proofs.Entries.{each_text, file_name_is, read_file}
use Rattle.set_round_trip.proofs.FileContents.{all_names, heads_agree, names_start, no_extensions}
use Rattle.set_round_trip.proofs.Fronts.{entry, read_all}
use Rattle.set_round_trip.proofs.Ordered.{all_bytes, all_files, file_at, no_file}
use Rattle.set_round_trip.proofs.SameFiles.{IsFileOf, of_file}
use Rattle.set_round_trip.proofs.SameLinks.{linked_on}
use Rattle.set_round_trip.proofs.ShortNames.{files_short}
use Rattle.set_round_trip.proofs.Twice.{once_moved}

-- ---- what the files say

-- a file has a name, and its bytes say something, with elements within one another no deeper than the reader takes
pub record IsReadable (reader : Limits) (file : CompiledFile) : Type 0 where
  pub name : IsName file.name
  pub contents : Contents
  pub says : SaysFile (depth_of reader) file.bytes contents

contents_of : (reader : Limits) (files : List CompiledFile)
    → ((f : CompiledFile) → Contains files f → IsReadable reader f)
    → (cs : List Contents) × AllZip (FileSays (depth_of reader)) files cs
contents_of reader [] each = ([], tt)
contents_of reader (f ∷ files) each =
    let is = each f (front f files) in
    let (cs, all) = contents_of reader files (λ g has. each g (behind f files g has)) in
    (is.contents ∷ cs, (is.says, all))

-- ---- the bytes of the set

bytes_short : (limits : Limits) (files : List CompiledFile) (descs : List FileDesc) → AllZip IsFileOf files descs
    → All (IsShort limits) descs → (a : ℕ) → length (bytes_at files a) ≤ limit_of limits limit.DescriptorBytes
bytes_short limits [] [] are short a = omega arith
bytes_short limits (f ∷ files) (d ∷ descs) are short zero =
    subst (λ b. length b ≤ limit_of limits limit.DescriptorBytes) (sym are.0.bytes)
    (All-head (IsShort limits) d descs short)
bytes_short limits (f ∷ files) (d ∷ descs) are short (suc a) =
    bytes_short limits files descs are.1 (All-tail (IsShort limits) d descs short) a
bytes_short limits files descs are short a = grind arith

set_row : (limits : Limits) (files : List CompiledFile) (links : Linked)
    → ((a : ℕ) → length (bytes_at files a) ≤ limit_of limits limit.DescriptorBytes)
    → IsRow (set_of files links) (map (entry 1 (bytes_at files)) links.set_order)
set_row limits files links short =
    let order = links.set_order in
    let fields = map (entry 1 (bytes_at files)) order in
    let file = entry 1 (bytes_at files) in
    let fits : All IsMessageField fields = All-map IsMessageField file order (λ k d below. record {
      positive = omega arith;
      small = omega arith;
      fits = omega (arith, short (get_or order k d), limits.descriptor_bytes_bound);
    }) in
    subst (λ text. IsRow text fields) (flat_map-map entry_bytes file order) (written_row fields fits)

-- ---- its files

named_file : (reader : Limits) (f : CompiledFile) (desc : FileDesc) → IsFileOf f desc → IsReadable reader f
    → IsNamedFile f
named_file reader f desc are is =
    let fields = read_all (read_file desc) (subst (λ t. IsRow t is.says.fields) are.bytes is.says.row) in
    let name : f.name ≡ text_of 1 is.says.fields =
    are.name ∙ sym (file_name_is desc) ∙ ap (text_of 1) (sym fields) in
    record {
      has = record {
        fields = is.says.fields;
        row = is.says.row;
        is = name;
        utf8 = is.name.utf8;
      };
      named = is.name.some;
    }

-- ---- its index

services_at : (o : Occurrence) (os : List Occurrence) (b : Bool) → services_of (map at_start os) ≡ services_of os
    → map index_names.name_of (cond b (at_start o ∷ filter (λ p. is_service_kind p.kind) (map at_start os))
    (filter (λ p. is_service_kind p.kind) (map at_start os)))
    ≡ map index_names.name_of (cond b (o ∷ filter (λ p. is_service_kind p.kind) os)
    (filter (λ p. is_service_kind p.kind) os))
services_at o os true rest = ap (λ (ns : List (List ℕ)). o.name ∷ ns) rest
services_at o os false rest = rest

services_start : (os : List Occurrence) → services_of (map at_start os) ≡ services_of os
services_start [] = refl
services_start (o ∷ os) = services_at o os (is_service_kind o.kind) (services_start os)

sound_start : (index : Index) → index_names.IsSound index → index_names.IsSound (index_at_start index)
sound_start index is = record {
  inside = λ o has. (
      let (p, there, at) = of_map at_start index.occurrences o has in
      omega (arith, is.inside p there, ap (λ (x : Occurrence). x.file) at));
  services = subst (λ ns. IsPermutation ns index.services) (sym (services_start index.occurrences)) is.services;
  order = is.order;
}

-- ---- extensions

none_tabled : (es : List ExtensionAt) → es ≡ [] → AreTabled es []
none_tabled es none = record {
  rise = λ i j d before below. absurd (omega (arith, below));
  each = λ d has. absurd (none_in d has);
  all = λ d (e, has, is). absurd (none_in e (subst (λ xs. Contains xs e) none has));
  few = omega arith;
}

-- ---- the set

module _ (limits reader : Limits) (no_lower : AreNoLower reader limits) (sources : List Source) (c : Compilation)
    (first : IsCompiled limits sources c) (each : (f : CompiledFile) → Contains c.files f → IsReadable reader f) where
  by_name : AreByName reader (set_of c.files c.links) c.files
  by_name =
      let w = first.written in
      let linked = w.resolved.analysed.linked in
      let are = files_are limits sources c first in
      let order = c.links.set_order in
      let every = every_file limits sources c first in
      let coherent = (sound limits sources c first).coherent in
      let placed = map (file_at c.files) order in
      let fields = map (entry 1 (bytes_at c.files)) order in
      let row = set_row limits c.files c.links (bytes_short limits c.files w.descs are w.short) in
      let texts : map file_bytes placed ≡ filter_map (text_in 1) fields =
      all_bytes c.files order ∙ sym (each_text 1 (bytes_at c.files) order refl).is in
      let named : All IsNamedFile placed = All-map IsNamedFile (file_at c.files) order (λ k d below. (
      let a = get_or order k d in
      let f = file_at c.files a in
      let has = Contains-get_or c.files a no_file ((every a).0 (Contains-get_or order k d below)) in
      let (desc, is) = of_file c.files w.descs are f has in
      named_file reader f desc is (each f has))) in
      record {
        placed = placed;
        are = record {
          short = omega (arith, first.within, no_lower.set_bytes);
          texts = (fields, row, texts);
          few = omega (
            arith,
            length-map order (file_at c.files),
            (whole_of w.resolved.descs c.links linked).size,
            linked.count,
            described_count limits sources c first,
            coherent.few,
            ap (λ (l : Limits). limit_of l limit.Files) w.same_limits,
            no_lower.files,
          );
          each = named;
        };
        all = all_files (IsBefore (rank_of c.links)) (before_strict (rank_of c.links)) c.files order
            (order_rises (rank_of c.links) order linked.order.rises) every;
        rises = coherent.rises;
      }

  pub read : (d : Compilation) × IsOfSet reader (set_of c.files c.links) d
  read =
      let w = first.written in
      let r = w.resolved in
      let indexed = r.analysed.indexed in
      let count = described_count limits sources c first in
      let are = files_are limits sources c first in
      let (contents, says) = contents_of reader c.files each in
      let agreed = all_agree limits (depth_of reader) c.links c.index 0 w.sorted r.descs w.descs c.files contents
      r.analysed.described.each r.each are says in
      let (names, imports) = heads_agree r.descs contents agreed in
      let said = names_from 0 contents in
      let all = occurrences r.descs in
      let moved = all_names 0 r.descs contents agreed in
      let placed : IsPermutation said (map at_start all) =
      subst (λ os. IsPermutation os (map at_start all)) (names_start 0 r.descs contents agreed) moved in
      let short : All (IsShortName reader) said = All-permutation (IsShortName reader) (map at_start all) said
      (IsPermutation-sym said (map at_start all) placed) (All-map (IsShortName reader) at_start all
      (All-weaker (IsShortName limits) (IsShortName reader) (λ o few. omega (arith, few, no_lower.full_name_bytes))
      all (files_short limits 0 w.sorted r.descs r.analysed.described.each))) in
      let index : IndexesNames (length c.files) said reader (index_at_start c.index) = record {
        files = indexed.files ∙ sym count;
        within = omega (
          arith,
          indexed.within,
          length_permutation said (map at_start all) placed,
          length-map all at_start,
          no_lower.names,
        );
        once = once_moved all said moved indexed.once;
        all = IsPermutation-trans said (map at_start all) (map at_start c.index.occurrences) placed
            (IsPermutation-map at_start all c.index.occurrences indexed.all);
        sound = sound_start c.index indexed.sound;
      } in (
        record {
          files = c.files;
          links = c.links;
          index = index_at_start c.index;
          extensions = [];
          limits = reader;
        },
        record {
          contents = contents;
          says = record { by_name = by_name; each = says };
          short_names = short;
          linked = linked_on r.descs (map head_of contents) (sym names) (sym imports) c.links r.analysed.linked;
          indexed = index;
          same_limits = refl;
          extensions = none_tabled (extensions_from 0 contents) (no_extensions 0 r.descs contents agreed);
        },
      )
