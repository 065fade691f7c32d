use Rattle.proto_syntax.proofs.Prefix.{one_fault}
use Rattle.proto_syntax.proofs.parser.at_most_one_fault.Goals as goal

pub returns : goal.returns
returns c = one_fault
