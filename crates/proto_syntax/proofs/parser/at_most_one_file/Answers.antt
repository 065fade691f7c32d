use Rattle.proto_syntax.proofs.Common.{file_tree}
use Rattle.proto_syntax.proofs.Faults.{only_tree}
use Rattle.proto_syntax.proofs.SameFiles.{same_file}
use Rattle.proto_syntax.proofs.parser.at_most_one_file.Goals as goal

pub returns : goal.returns
returns c limit ts f g i j = same_file f g (only_tree limit ts (file_tree f) (file_tree g) i j)
