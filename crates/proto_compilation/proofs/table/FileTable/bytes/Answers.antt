use Rattle.std.proofs.Common.{arith}
use Rattle.proto_compilation.proofs.Tabling.{bytes_are}
use Rattle.proto_compilation.proofs.table.FileTable.bytes.Goals as goal

pub returns-in-Some : goal.returns-in-Some
returns-in-Some c = grind (arith, bytes_are)
