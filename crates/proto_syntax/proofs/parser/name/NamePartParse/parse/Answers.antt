use Rattle.std.proofs.Common.{rules}
use Rattle.proto_syntax.proofs.parser.name.NamePartParse.parse.Goals as goal

pub returns : goal.returns
returns c = search rules
