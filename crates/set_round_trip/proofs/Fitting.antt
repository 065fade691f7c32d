-- The set of sources that have names is read: their descriptors fit.
use Rattle.std.proofs.Common.{sym, subst, inl, inr, ℕ, ◌+◌, ◌≤◌, List, [], ◌∷◌, All, Contains, arith}
use Rattle.std.proofs.lemmas.List.Elements.{All-cons, All-head, All-nil, All-tail}
use Rattle.std.proofs.lemmas.List.Sorted.{All-permutation}
use Rattle.std.specs.List.{AllZip}
use Rattle.proto_base.specs.declared.limits.Limits.{Limits}
use Rattle.proto_compilation.specs.Compilation.{Compilation, CompiledFile, set_of}
use Rattle.proto_compile.specs.Analysed.{AreTypedFrom}
use Rattle.proto_compile.specs.Compiled.{IsCompiled, IsShort}
use Rattle.proto_compile.specs.Descriptions.{SourceDescribes}
use Rattle.proto_compile.specs.Sources.{name_of, text_of}
use Rattle.proto_compile.specs.declared.source.Source.{Source}
use Rattle.proto_desc.specs.declared.file.FileDesc.{FileDesc}
use Rattle.proto_links.proofs.Rising.{front_or_behind, none_in}
use Rattle.proto_links.specs.Linked.{Linked}
use Rattle.proto_names.specs.Index.{Index}
use Rattle.proto_names.specs.Resolution.{SeenBy}
use Rattle.proto_sets.specs.Sets.{IsOfSet, SaysFile, depth_of}
use Rattle.set_round_trip.specs.Fits.{FileFits, IsName}
use Rattle.set_round_trip.specs.Readable.{AreNoLower, HasName}
use Rattle.set_round_trip.proofs.CompiledFiles.{files_are}
use Rattle.set_round_trip.proofs.Described.{source_described}
use Rattle.set_round_trip.proofs.Reading.{IsReadable, read}
use Rattle.set_round_trip.proofs.SameFiles.{IsFileOf}
use Rattle.set_round_trip.proofs.Speaking.{file_speaks}
use Rattle.set_round_trip.proofs.TypedFits.{typed_fits}

-- ---- descriptors fit

module _ (limits : Limits) (links : Linked) (index : Index) (depth : ℕ) (deep : depth_of limits ≤ depth) where
  each_fits : (a : ℕ) (sources : List Source) (descs typed : List FileDesc)
      → AllZip (SourceDescribes limits) sources descs → AreTypedFrom links index a descs typed → All HasName sources
      → All (FileFits depth) typed
  each_fits a [] [] [] described resolved named = All-nil (FileFits depth)
  each_fits a (s ∷ sources) (d ∷ descs) (t ∷ typed) described resolved named =
      let fits = source_described limits (name_of s) (text_of s) d described.0 (All-head HasName s sources named) depth
      deep in
      All-cons (FileFits depth) t typed
      (typed_fits index.occurrences (SeenBy links a) depth d t resolved.0.resolved fits)
      (each_fits (a + 1) sources descs typed described.1 resolved.1 (All-tail HasName s sources named))
  each_fits a sources descs typed described resolved named = grind arith

pub compiled_fits : (limits : Limits) (sources : List Source) (c : Compilation) (is : IsCompiled limits sources c)
    → All HasName sources → (depth : ℕ) → depth_of limits ≤ depth → All (FileFits depth) is.written.descs
compiled_fits limits sources c is named depth deep =
    let w = is.written in
    let described = w.resolved.analysed.described in
    each_fits limits c.links c.index depth deep 0 w.sorted w.resolved.descs w.descs described.each w.resolved.each
    (All-permutation HasName sources w.sorted described.by_name.all named)

-- ---- so their files are readable

module _ (limits reader : Limits) where
  abbrev Fits : FileDesc → Type 0
  Fits desc = FileFits (depth_of reader) desc

  fitting : (f : CompiledFile) (desc : FileDesc) → IsFileOf f desc → Fits desc → IsShort limits desc
      → IsReadable reader f
  fitting f desc is fits short =
      let (contents, says) = file_speaks (depth_of reader) desc fits
      (omega (arith, short, limits.descriptor_bytes_bound)) in
      record {
        name = subst IsName (sym is.name) fits.name;
        contents = contents;
        says = subst (λ text. SaysFile (depth_of reader) text contents) (sym is.bytes) says;
      }

  all_fitting : (files : List CompiledFile) (descs : List FileDesc) → AllZip IsFileOf files descs → All Fits descs
      → All (IsShort limits) descs → (f : CompiledFile) → Contains files f → IsReadable reader f
  all_fitting [] descs are fits short f has = absurd (none_in f has)
  all_fitting (g ∷ files) (d ∷ descs) are fits short f has = elim (front_or_behind g files f has) [
    | inl here ↦ subst (λ x. IsReadable reader x) here
        (fitting g d are.0 (All-head Fits d descs fits) (All-head (IsShort limits) d descs short))
    | inr there ↦ all_fitting files descs are.1 (All-tail Fits d descs fits)
        (All-tail (IsShort limits) d descs short) f there
  ]
  all_fitting files descs are fits short f has = absurd are

pub read_named_sources : (limits reader : Limits) (sources : List Source) (c : Compilation)
    → IsCompiled limits sources c → AreNoLower reader limits → All HasName sources
    → (d : Compilation) × IsOfSet reader (set_of c.files c.links) d
read_named_sources limits reader sources c is no_lower named =
    let w = is.written in
    let fits = compiled_fits limits sources c is named (depth_of reader) (omega (arith, no_lower.depth)) in
    read limits reader no_lower sources c is
    (all_fitting limits reader c.files w.descs (files_are limits sources c is) fits w.short)
