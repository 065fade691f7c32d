use Rattle.std.proofs.Common.{rules}
use Rattle.proto_lower.proofs.names.entry_name.Goals as goal

pub returns : goal.returns
returns c = search rules
