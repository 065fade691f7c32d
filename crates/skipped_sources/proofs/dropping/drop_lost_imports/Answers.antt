use Rattle.std.proofs.Common.{◌∙◌, ap, length}
use Rattle.source_folder.specs.Folder.{names_of}
use Rattle.skipped_sources.specs.Losing.{LosesAmong}
use Rattle.skipped_sources.proofs.Blanking.{as_many, without_lost}
use Rattle.skipped_sources.proofs.dropping.drop_lost_imports.Goals as goal

pub blank_sources-requires : goal.blank_sources-requires
blank_sources-requires g c =
    let sources = c.args.sources.now in
    ap length c.deref.ensures.value
    ∙ as_many (LosesAmong c.args.limits.now (names_of sources)) sources c.in_ok-lists.lists.items c.in_ok-lists.ensures

pub returns : goal.returns
returns g c =
    let sources = c.args.sources.now in
    rw (c.blank_sources.ensures, c.deref.ensures.value)
    (without_lost c.args.limits.now sources c.in_ok-lists.lists.items c.in_ok-lists.ensures)
