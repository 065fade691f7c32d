use Rattle.proto_names.proofs.scopes.Scopes.inside.Goals as goal

pub returns : goal.returns
returns c = rw c.inside.ensures at c.up_to.ensures
