use Rattle.proto_types.proofs.Common.{◌∙◌, [], sym, append-nil, file_scope, IsSeen}
use Rattle.proto_types.proofs.Trees.{typed_resolved}
use Rattle.proto_types.proofs.typing.fill_types.Goals as goal

pub returns-clause-typed : goal.returns-clause-typed
returns-clause-typed c = λ os seen means.
    let types = c.args.types.items in
    (c.fill_file.ensures.puts os seen (file_scope c.args.desc.now.«package») types [] means
    (c.from.ensures.0 ∙ sym (append-nil types))).1

pub returns-clause-resolved : goal.returns-clause-resolved
returns-clause-resolved c = λ os seen means.
    let f = c.args.desc.now in
    typed_resolved os (IsSeen seen) (file_scope f.«package») f c.fill_file.new.file
    (returns-clause-typed c os seen means)
