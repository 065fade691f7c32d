use Rattle.std.proofs.Common.{rules}
use Rattle.proto_lower.proofs.field.put_fields.Goals as goal

pub loop-item-init : goal.loop-item-init
loop-item-init c = search rules
