use Rattle.proto_compilation.proofs.Tabling.{positioned}
use Rattle.proto_compilation.proofs.table.FileTable.position.Goals as goal

pub returns : goal.returns
returns c = rw (← c.self.view_is) (positioned _ c.args.name.now c.get_index_of.result c.get_index_of.ensures.index)
