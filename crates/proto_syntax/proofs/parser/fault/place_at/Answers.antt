use Rattle.proto_syntax.proofs.Common.{arith, gets}
use Rattle.proto_syntax.proofs.Steps.{spelling_at}
use Rattle.proto_syntax.proofs.parser.fault.place_at.Goals as goal

pub returns-in-Some : goal.returns-in-Some
returns-in-Some c = grind (arith, gets, spelling_at)
