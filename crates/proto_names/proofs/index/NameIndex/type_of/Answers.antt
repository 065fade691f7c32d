use Rattle.proto_names.proofs.Common.{ap, arith, Contains-get_or, scoped, Index, SeenBy}
use Rattle.proto_names.proofs.Unique.{type_visible}
use Rattle.proto_names.proofs.index.NameIndex.type_of.Goals as goal

pub type_among-requires-clause-entries : goal.type_among-requires-clause-entries
type_among-requires-clause-entries c k d below =
    let here = c.named.ensures.found _ (Contains-get_or c.named.result.names k d below) in
    let files = ap (λ (index : Index). index.files) c.self.view_is in
    omega (arith, c.self.invariant.0.inside _ here.0, files, c.requires.links)

pub returns : goal.returns
returns c = rw (ap (λ (index : Index). index.occurrences) c.self.view_is)
    at (type_visible c.self.inside.entries (SeenBy c.args.links.now c.args.file)
    (scoped c.args.scope.text.now c.args.name.text.now) _ c.named.ensures.found c.named.ensures.all _
    c.type_among.ensures)
