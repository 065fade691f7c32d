-- One block of a report after another.
use Rattle.std.proofs.Common.{◌≡◌, ◌∙◌, sym, ap, subst, ℕ, ◌+◌, ◌<◌, List, [], ◌∷◌, ◌++◌, length, take, get_or, string_bytes, append-nil, append_assoc}
use Rattle.std.proofs.lemmas.List.{take_more}
use Rattle.std.proofs.lemmas.List.Folds.{concat-append}
use Rattle.std.proofs.lemmas.Slice.Zip.{all_zipped_more}
use Rattle.std.specs.List.{AllZip, concat}
use Rattle.fault_report.specs.declared.form.Form.{Form}
use Rattle.proto_base.specs.declared.fault.Fault.{Fault}
use Rattle.proto_base.specs.declared.limits.Limits.{Limits}
use Rattle.proto_compile.specs.declared.source.Source.{Source}
use Rattle.schema_check.specs.Added.{AddsBlock, AddsBlocks}
use Rattle.schema_check.specs.Open.{IsOpen}
use Rattle.schema_check.specs.declared.pages.OpenFile.{OpenFile}
use Rattle.schema_check.specs.Reports.{IsBlock}
use Rattle.schema_check.specs.Told.{ArePlaced, LiesWithin}
use Rattle.schema_sources.specs.declared.places.Places.{Places}

block_more : (form : Form) (limits : Limits) (places : Places) (sources : List Source) (faults : List Fault) (k : ℕ)
    (f : Fault) (start old new : List ℕ) → k < length faults
    → f ≡ get_or faults k f → AddsBlocks form limits places sources (take k faults) start old
    → AddsBlock form limits places sources f old new
    → AddsBlocks form limits places sources (take (k + 1) faults) start new
block_more form limits places sources faults k f start old new h is (blocks, all, so_far) (block, said, added) =
    let more : AllZip (IsBlock form limits places sources) (take k faults ++ f ∷ []) (blocks ++ block ∷ []) =
    all_zipped_more (IsBlock form limits places sources) (take k faults) blocks f block all said in
    let whole : new ≡ start ++ concat (blocks ++ block ∷ []) =
    added ∙ ap (λ (xs : List ℕ). xs ++ block) so_far ∙ append_assoc start (concat blocks) block
    ∙ ap (λ (xs : List ℕ). start ++ (concat blocks ++ xs)) (sym (append-nil block))
    ∙ ap (λ (xs : List ℕ). start ++ xs) (sym (concat-append blocks (block ∷ []))) in
    let P : Fault → Type 0 = λ g. AllZip (IsBlock form limits places sources) (take k faults ++ g ∷ []) (blocks
    ++ block ∷ []) in
    rw (take_more faults k f h) (blocks ++ block ∷ [], subst P is more, whole)

-- this was put, and a file is open
pub record IsTold (form : Form) (limits : Limits) (places : Places) (sources : List Source) (faults : List Fault)
    (file : OpenFile) (start body : List ℕ) : Type 0 where
  pub body_is : AddsBlocks form limits places sources faults start body
  pub open_is : IsOpen form limits places sources file.name.now file

open_so : (form : Form) (limits : Limits) (places : Places) (sources : List Source) (name : List ℕ) (file : OpenFile)
    → IsOpen form limits places sources name file → IsOpen form limits places sources file.name.now file
open_so form limits places sources name file is =
    subst (λ n. IsOpen form limits places sources n file) (sym is.name_is) is

module _ (form : Form) (limits : Limits) (places : Places) (sources : List Source) where
  pub told_none : (name : List ℕ) (file : OpenFile) (start : List ℕ) → IsOpen form limits places sources name file
      → IsTold form limits places sources [] file start start
  told_none name file start is = record {
    body_is = ([], tt, sym (append-nil start));
    open_is = open_so form limits places sources name file is;
  }

  pub told_more : (faults : List Fault) (k : ℕ) (f : Fault) (before file : OpenFile) (start old new : List ℕ)
      → k < length faults
      → f ≡ get_or faults k f → IsTold form limits places sources (take k faults) before start old
      → IsOpen form limits places sources (string_bytes f.file) file
      → AddsBlock form limits places sources f old new
      → IsTold form limits places sources (take (k + 1) faults) file start new
  told_more faults k f before file start old new h is told opens adds = record {
    body_is = block_more form limits places sources faults k f start old new h is told.body_is adds;
    open_is = open_so form limits places sources (string_bytes f.file) file opens;
  }

-- a told fault stands within the text of its file
pub lies_within : (sources : List Source) (faults : List Fault) (k : ℕ) (f : Fault) → k < length faults
    → f ≡ get_or faults k f
    → ArePlaced sources faults → LiesWithin sources f
lies_within sources faults k f h is placed = placed f (k, h, sym is)
