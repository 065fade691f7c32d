use Rattle.std.proofs.Common.{rules}
use Rattle.proto_syntax.proofs.parser.fault.kind_of.Goals as goal

pub returns-then-is_custom : goal.returns-then-is_custom
returns-then-is_custom c = search rules
