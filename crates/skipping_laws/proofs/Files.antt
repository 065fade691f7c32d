-- A file that breaks no rule by itself stays as it is.
use Rattle.std.proofs.Common.{◌≡◌, ℕ, List, sym, ◌∙◌, true}
use Rattle.proto_base.specs.Limits.{limit_of}
use Rattle.proto_base.specs.declared.limits.Limit.TheVariants as limit
use Rattle.proto_base.specs.declared.limits.Limits.{Limits}
use Rattle.proto_desc.specs.declared.file.FileDesc.{FileDesc}
use Rattle.proto_file.specs.Local.{Describes}
use Rattle.proto_syntax.specs.Grammar.{flatten}
use Rattle.proto_syntax.specs.Trees.{file_tree}
use Rattle.source_skip.proofs.Plain.{nothing_goes}
use Rattle.source_skip.specs.Pieces.{loose_tokens}
use Rattle.source_skip.specs.Skipped.{skipped}
use Rattle.skipping_laws.proofs.Calm.{nothing_found}
use Rattle.skipping_laws.proofs.Ends.{tree_ends}
use Rattle.skipping_laws.proofs.Keeping.{fine_file}
use Rattle.skipping_laws.proofs.Known.{file_known}
use Rattle.skipping_laws.proofs.Loose.{loose_alike}
use Rattle.skipping_laws.proofs.Watch.{Start, IsCalm, found_under, under, watch, watch_same}
use Rattle.skipping_laws.proofs.Written.{file_start}

pub file_stays : (limits : Limits) (name text : List ℕ) (desc : FileDesc) → Describes limits name text desc
    → skipped text ≡ text
file_stays limits name text desc (file, (ts, tokens, tree), unbroken, same) =
    let depth = limit_of limits limit.Depth in
    let written = fine_file depth file (file_known limits name file unbroken) tree.tree in
    let ends : under (watch Start (flatten (file_tree file))) Start ≡ true =
    rw (file_start depth) at (tree_ends written Start) in
    let alike = watch_same Start (loose_tokens text) ts (loose_alike _ text ts tokens) in
    let watched : watch Start (loose_tokens text) ≡ watch Start (flatten (file_tree file)) = rw tree.tokens alike in
    let calm : IsCalm Start (loose_tokens text) =
    λ found. let e = found_under Start (rw (sym watched ∙ found) at ends) in cc in
    nothing_goes text (nothing_found (loose_tokens text) calm)
