use Rattle.proto_names.proofs.Once.{declared_once}
use Rattle.proto_names.proofs.index.NameIndex.names_are_declared_once.Goals as goal

pub returns : goal.returns
returns c =
    rw c.self.view_is at (declared_once _ c.self.invariant.1.0 c.self.invariant.1.1 c.self.invariant.1.2
    c.self.invariant.1.3)
