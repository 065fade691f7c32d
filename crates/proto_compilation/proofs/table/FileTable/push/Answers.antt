use Rattle.std.proofs.Common.{arith}
use Rattle.proto_compilation.proofs.Tabling.{pushed}
use Rattle.proto_compilation.proofs.table.FileTable.push.Goals as goal

pub returns : goal.returns
returns c = grind (arith, pushed)
