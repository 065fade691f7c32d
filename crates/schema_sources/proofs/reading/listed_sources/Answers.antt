use Rattle.std.proofs.Common.{◌≡◌, Global, List, String, Vec, map, subst, sym, Ok}
use Rattle.std.proofs.lemmas.Result.{IfOk-weaker}
use Rattle.proto_base.specs.NameOrder.{NamesRise}
use Rattle.share_work.specs.Shares.{GivesItems}
use Rattle.source_folder.specs.Folder.{names_of}
use Rattle.source_folder.specs.declared.folder.NamedText.{NamedText}
use Rattle.schema_sources.specs.Reading.{AreTakenOf}
use Rattle.schema_sources.proofs.Listing.{Under, are_texts, same_names}
use Rattle.schema_sources.proofs.reading.listed_sources.Goals as goal

pub returns-clause-texts : goal.returns-clause-texts
returns-clause-texts g c =
    let known = g.F.SourceFolder.sources c.args.folder.now in
    let names = c.in_ok-names.names.items in
    let outcomes = c.in_ok-outcomes.outcomes.items in
    let gives = subst (λ (ns : List (String Global)). GivesItems (λ k. Under known) 0 ns outcomes)
    c.deref.ensures.value c.in_ok-outcomes.ensures in
    IfOk-weaker c.all_read.result (λ (texts : Vec NamedText Global). outcomes ≡ map Ok texts.items)
    (λ texts. AreTakenOf known texts.items)
    (λ texts read. are_texts known names texts.items outcomes c.in_ok-names.ensures.names gives read)
    c.all_read.ensures.read

pub returns-clause-order : goal.returns-clause-order
returns-clause-order g c =
    let known = g.F.SourceFolder.sources c.args.folder.now in
    let names = c.in_ok-names.names.items in
    let outcomes = c.in_ok-outcomes.outcomes.items in
    let gives = subst (λ (ns : List (String Global)). GivesItems (λ k. Under known) 0 ns outcomes)
    c.deref.ensures.value c.in_ok-outcomes.ensures in
    IfOk-weaker c.all_read.result (λ (texts : Vec NamedText Global). outcomes ≡ map Ok texts.items)
    (λ texts. NamesRise (names_of texts.items))
    (λ texts read. subst NamesRise (sym (same_names known names texts.items outcomes gives read))
    c.in_ok-names.ensures.order) c.all_read.ensures.read
