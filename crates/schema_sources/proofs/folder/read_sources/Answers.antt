use Rattle.std.proofs.Common.{◌≡◌, ◌∙◌, sym, map-id, Bool, true, false, Global, IfOk, IsTrue, List, Option, None, Some, Result, Ok, Err, Vec, refl}
use Rattle.std.proofs.lemmas.Option.{none-some}
use Rattle.proto_base.specs.declared.limits.Limits.{Limits}
use Rattle.skipped_sources.specs.declared.options.CustomOptions.TheVariants.{Refuse}
use Rattle.source_folder.specs.Folder.{NamedBytes}
use Rattle.source_folder.specs.declared.trouble.FolderTrouble.{FolderTrouble}
use Rattle.source_folder.specs.declared.folder.NamedText.{NamedText}
use Rattle.schema_sources.specs.Reading.{AreTakenOf}
use Rattle.schema_sources.specs.Texts.{AreTextsBy}
use Rattle.schema_sources.proofs.folder.read_sources.Goals as goal

refused : (limits : Limits) (known : Option (List NamedBytes)) (asked : Bool) (given : Vec NamedText Global)
    (r : Result (Vec NamedText Global) FolderTrouble) → (IsTrue asked → known ≡ None)
    → AreTakenOf (record { texts = known; custom_options = Refuse }) given.items
    → (asked ≡ false → IfOk r (λ sources. sources ≡ given))
    → IfOk r (λ texts. AreTextsBy limits Refuse known texts.items)
refused limits known asked given (Err e) shelf taken kept = tt
refused limits None asked given (Ok texts) shelf taken kept = tt
refused limits (Some all) true given (Ok texts) shelf taken kept = absurd (none-some all (sym (shelf refl)))
refused limits (Some all) false given (Ok texts) shelf taken kept = rw (kept refl) (taken ∙ map-id all)

pub returns-in-Refuse : goal.returns-in-Refuse
returns-in-Refuse g c =
    let known = g.F.SourceFolder.sources c.args.folder.now in
    let by = sym c.custom_options.ensures ∙ c.in-Refuse.is in
    rw by (refused c.args.limits.now known.texts c.has_shelf-is_asked.result c.in_ok-given.given c.searched.result
    c.has_shelf-is_asked.ensures (rw by at c.in_ok-given.ensures.texts) c.searched.ensures)
