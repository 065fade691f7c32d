use Rattle.proto_names.proofs.Common.{SeenBy, scoped}
use Rattle.proto_names.proofs.Unique.{no_type}
use Rattle.proto_names.proofs.index.NameIndex.type_in.Goals as goal

pub returns-in_err-kind-in-Scope : goal.returns-in_err-kind-in-Scope
returns-in_err-kind-in-Scope c =
    rw c.from_residual.ensures
    (no_type c.args.self.now.occurrences (SeenBy c.args.links.now c.args.file)
    (scoped c.args.inner.text.now c.args.spelled.text.now) (rw c.args.spelled.entire at c.in_err-kind-in-Scope.ensures))
