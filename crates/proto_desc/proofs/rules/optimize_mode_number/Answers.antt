use Rattle.std.proofs.Common.{rules}
use Rattle.proto_desc.proofs.rules.optimize_mode_number.Goals as goal

pub returns-in-CODE_SIZE : goal.returns-in-CODE_SIZE
returns-in-CODE_SIZE c = search rules
