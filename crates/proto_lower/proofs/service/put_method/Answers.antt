use Rattle.std.proofs.Common.{rules}
use Rattle.proto_lower.proofs.service.put_method.Goals as goal

pub returns : goal.returns
returns c = search rules
