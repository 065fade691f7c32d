use Rattle.std.proofs.Common.{◌∙◌, refl}
use Rattle.proto_base.proofs.KindOrder.{by_number}
use Rattle.proto_base.proofs.fault.Fault.order.Goals as goal

pub returns : goal.returns
returns c = c.cmp.ensures ∙ rw (by_number c.args.self.now.kind c.args.other.now.kind) refl
