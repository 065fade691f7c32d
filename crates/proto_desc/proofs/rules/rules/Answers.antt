use Rattle.std.proofs.Common.{rules}
use Rattle.proto_desc.proofs.rules.rules.Goals as goal

pub returns-in-Method : goal.returns-in-Method
returns-in-Method c = search rules
