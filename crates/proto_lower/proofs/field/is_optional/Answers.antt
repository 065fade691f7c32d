use Rattle.std.proofs.Common.{rules}
use Rattle.proto_lower.proofs.field.is_optional.Goals as goal

pub returns-in_default : goal.returns-in_default
returns-in_default c = search rules
