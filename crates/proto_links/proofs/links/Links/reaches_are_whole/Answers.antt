use Rattle.proto_links.proofs.Whole.{whole_of}
use Rattle.proto_links.proofs.links.Links.reaches_are_whole.Goals as goal

pub returns : goal.returns
returns c = rw c.self.view_is at (whole_of _ _ c.self.invariant.1.1)
