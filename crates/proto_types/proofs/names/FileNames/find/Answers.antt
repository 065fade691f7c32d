use Rattle.proto_types.proofs.Common.{SeenBy}
use Rattle.proto_types.proofs.Recalls.{found_outside}
use Rattle.proto_types.proofs.names.FileNames.find.Goals as goal

pub returns-in-Here-clause-found : goal.returns-in-Here-clause-found
returns-in-Here-clause-found c =
    rw (← c.self.view_is, ← c.new-name.ensures)
    (λ scope inside are. c.in-Here.ensures scope c.self.inside.package.text.now inside are)

pub returns-in-Outside-clause-found : goal.returns-in-Outside-clause-found
returns-in-Outside-clause-found c =
    let names = c.self.inside in
    let found = rw (← c.self.view_is) at c.in_package.ensures.found in
    rw (← c.self.view_is, ← c.new-name.ensures) (λ scope inside are. found_outside names.index.now.occurrences
    (SeenBy names.links.now names.file) scope names.package.text.now c.new-name.result.text.now c.in_package.result
    (c.in-Outside.ensures scope names.package.text.now inside are) found)
