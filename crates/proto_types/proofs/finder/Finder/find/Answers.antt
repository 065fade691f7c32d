use Rattle.proto_types.proofs.finder.Finder.find.Goals as goal

pub returns-in_ok-scopes-in-None-clause-found : goal.returns-in_ok-scopes-in-None-clause-found
returns-in_ok-scopes-in-None-clause-found c =
    c.find-found.ensures.found c.args.inner.now.scope.now c.requires.inside
    (rw c.package.ensures at c.in_ok-scopes-in-None.ensures)

pub returns-in_ok-scopes-in-None-clause-ready : goal.returns-in_ok-scopes-in-None-clause-ready
returns-in_ok-scopes-in-None-clause-ready c = record {
  inside = c.requires.inside;
  around = rw c.package.ensures at c.in_ok-scopes-in-None.ensures;
  recalled = c.requires.recalled;
}
