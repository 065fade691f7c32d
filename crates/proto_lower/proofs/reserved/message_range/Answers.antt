use Rattle.std.proofs.Common.{rules}
use Rattle.proto_lower.proofs.reserved.message_range.Goals as goal

pub returns-in-None : goal.returns-in-None
returns-in-None c = search rules
