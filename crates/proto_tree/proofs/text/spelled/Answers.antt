use Rattle.std.proofs.Common.{rules}
use Rattle.proto_tree.proofs.text.spelled.Goals as goal

pub returns : goal.returns
returns c = search rules
