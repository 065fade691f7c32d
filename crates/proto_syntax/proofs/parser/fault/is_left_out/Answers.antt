use Rattle.std.proofs.Common.{rules}
use Rattle.proto_syntax.proofs.parser.fault.is_left_out.Goals as goal

pub returns-in_default-matches : goal.returns-in_default-matches
returns-in_default-matches c = search rules
