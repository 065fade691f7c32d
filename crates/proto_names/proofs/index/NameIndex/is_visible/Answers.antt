use Rattle.proto_names.proofs.Common.{ap, arith, Contains-get_or, scoped, Index, SeenBy, fits}
use Rattle.proto_names.proofs.Unique.{among_visible, visible_among}
use Rattle.proto_names.proofs.index.NameIndex.is_visible.Goals as goal

pub sees_one-requires-clause-entries : goal.sees_one-requires-clause-entries
sees_one-requires-clause-entries c k d below =
    let here = c.named.ensures.found _ (Contains-get_or c.named.result.names k d below) in
    let files = ap (λ (index : Index). index.files) c.self.view_is in
    omega (arith, c.self.invariant.0.inside _ here.0, files, c.requires.links)

pub returns : goal.returns
returns c =
    let seen = SeenBy c.args.links.now c.args.file in
    let name = scoped c.args.scope.text.now c.args.name.text.now in
    let is = ap (λ (index : Index). index.occurrences) c.self.view_is in
    let accepts = fits c.args.role in (
      λ t. rw is at (among_visible c.self.inside.entries seen accepts name _ c.named.ensures.found
          (c.sees_one.ensures.0 t)),
      λ v. c.sees_one.ensures.1
          (visible_among c.self.inside.entries seen c.args.role name _ c.named.ensures.all (rw is v)),
    )
