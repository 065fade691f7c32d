-- Faults stand in sources as these are shown where they stand in the sources.
use Rattle.std.proofs.Common.{◌≡◌, ◌∙◌, sym, ap, ℕ, ◌<◌, ◌≤◌, List, [], ◌∷◌, length, map, get_or, arith, Contains, string_bytes, refl, Result, Ok, Err, IfOk}
use Rattle.std.proofs.lemmas.List.{get_or-map, length-map}
use Rattle.std.proofs.lemmas.List.Elements.{Contains-get_or}
use Rattle.fault_report.specs.declared.form.Form.{Form}
use Rattle.proto_base.specs.declared.fault.Fault.{Fault}
use Rattle.proto_base.specs.declared.limits.Limits.{Limits}
use Rattle.proto_compile.specs.Sources.{name_of, text_of}
use Rattle.proto_compile.specs.declared.source.Source.{Source}
use Rattle.schema_check.specs.Reports.{IsReport}
use Rattle.schema_check.specs.Runs.{IsShownReport}
use Rattle.schema_check.specs.Texts.{AreTextsFor, text_line_ends}
use Rattle.schema_check.specs.Told.{ArePlaced, LiesWithin}
use Rattle.schema_check.specs.Written.{line_ends, line_ends_of}
use Rattle.schema_compile.specs.Sources.{AreSourcesOf}
use Rattle.schema_sources.specs.Texts.{bytes_of}
use Rattle.schema_sources.specs.declared.places.Places.{Places}
use Rattle.skipped_sources.specs.declared.options.CustomOptions.{CustomOptions}
use Rattle.skipped_sources.specs.declared.options.CustomOptions.TheVariants.{Skip}
use Rattle.source_folder.specs.declared.folder.NamedText.{NamedText}
use Rattle.source_skip.specs.Laws.{is_line_end}

-- what stands at a position in two lists of which a function makes the same list
same_at : {Y : Type 0} (f : Source → Y) (shown sources : List Source) (k : ℕ) (s : Source)
    → map f shown ≡ map f sources → k < length shown → k < length sources
    → f (get_or shown k s) ≡ f (get_or sources k s)
same_at f shown sources k s same h h' =
    sym (get_or-map f shown k s (f s) h) ∙ ap (λ ys. get_or ys k (f s)) same ∙ get_or-map f sources k s (f s) h'

same_length : (text shown : List ℕ) → line_ends shown ≡ line_ends text → length shown ≡ length text
same_length text shown lines = sym (length-map shown is_line_end) ∙ ap length lines ∙ length-map text is_line_end

still_within : (sources shown : List Source) (f : Fault) → map name_of shown ≡ map name_of sources
    → map line_ends_of shown ≡ map line_ends_of sources → LiesWithin sources f
    → (s : Source) → Contains shown s → name_of s ≡ string_bytes f.file → f.place.offset ≤ length (text_of s)
still_within sources shown f names lines lies s (k, h, is) named =
    let long : length shown ≡ length sources =
    sym (length-map shown name_of) ∙ ap length names ∙ length-map sources name_of in
    let inside : k < length sources = omega (arith, h, long) in
    let t : Source = get_or sources k s in
    let name : name_of s ≡ name_of t = ap name_of (sym is) ∙ same_at name_of shown sources k s names h inside in
    let ends : line_ends_of s ≡ line_ends_of t =
    ap line_ends_of (sym is) ∙ same_at line_ends_of shown sources k s lines h inside in
    let within = lies.within t (Contains-get_or sources k s inside) (sym name ∙ named) in
    omega (arith, within, same_length (text_of t) (text_of s) ends)

pub still_placed : (sources shown : List Source) (faults : List Fault) → map name_of shown ≡ map name_of sources
    → map line_ends_of shown ≡ map line_ends_of sources → ArePlaced sources faults → ArePlaced shown faults
still_placed sources shown faults names lines placed f told = record {
  within = still_within sources shown f names lines (placed f told);
  short = (placed f told).short;
}

ends_of_sources : (shown : List Source) → map line_ends_of shown ≡ map line_ends (map text_of shown)
ends_of_sources [] = refl
ends_of_sources (s ∷ shown) = ap (λ ends. line_ends (text_of s) ∷ ends) (ends_of_sources shown)

ends_of_texts : (texts : List NamedText) → map text_line_ends texts ≡ map line_ends (map bytes_of texts)
ends_of_texts [] = refl
ends_of_texts (t ∷ texts) = ap (λ ends. line_ends (bytes_of t) ∷ ends) (ends_of_texts texts)

pub shown_names : (sources shown : List Source) (texts : List NamedText) → AreSourcesOf texts shown
    → AreTextsFor sources texts → map name_of shown ≡ map name_of sources
shown_names sources shown texts are for = are.named ∙ for.0

pub shown_lines : (sources shown : List Source) (texts : List NamedText) → AreSourcesOf texts shown
    → AreTextsFor sources texts → map line_ends_of shown ≡ map line_ends_of sources
shown_lines sources shown texts are for =
    ends_of_sources shown ∙ ap (λ bytes. map line_ends bytes) are.bytes ∙ sym (ends_of_texts texts) ∙ for.1

-- a report over the sources as they are shown
pub shown_so : {T E : Type 0} (bytes : T → List ℕ) (options : CustomOptions) (form : Form) (limits : Limits)
    (places : Places) (sources shown : List Source) (faults : List Fault) (r : Result T E) → options ≡ Skip
    → map name_of shown ≡ map name_of sources → map line_ends_of shown ≡ map line_ends_of sources
    → IfOk r (λ t. IsReport form limits places shown faults (bytes t))
    → IfOk r (λ t. IsShownReport options form limits places sources faults (bytes t))
shown_so bytes options form limits places sources shown faults (Ok t) skips names lines report =
    (shown, rw skips (names, lines), report)
shown_so bytes options form limits places sources shown faults (Err e) skips names lines report = tt
