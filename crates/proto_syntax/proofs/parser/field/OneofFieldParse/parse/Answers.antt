use Rattle.proto_syntax.proofs.Common.{arith, common_steps}
use Rattle.proto_syntax.specs.Language.{member}
use Rattle.proto_syntax.proofs.parser.field.OneofFieldParse.parse.Goals as goal

pub returns : goal.returns
unfolding member
returns c = grind (arith, common_steps)
