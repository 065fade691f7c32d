use Rattle.std.proofs.Common.{string_bytes}
use Rattle.schema_check.proofs.Opening.{head_in}
use Rattle.schema_compile.specs.Placed.{source_named}
use Rattle.schema_check.proofs.blocks.head_of.Goals as goal

pub returns-in-Some : goal.returns-in-Some
returns-in-Some c = λ limits sources is.
    head_in string_bytes c.args.form limits c.args.places.now c.args.fault.now
    (source_named sources (string_bytes c.args.fault.now.file)) c.in-Some.page c.place_of.result
    (rw c.in-Some.is at is.page_is)
    (λ s are. c.place_of.ensures limits c.args.places.now s are is.name_is is.folder_is)
