use Rattle.proto_syntax.proofs.Faults.{only_tree}
use Rattle.proto_syntax.proofs.parser.at_most_one_tree.Goals as goal

pub returns : goal.returns
returns c = only_tree
