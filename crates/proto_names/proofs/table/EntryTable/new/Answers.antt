use Rattle.proto_names.proofs.Common.{arith, common_steps}
use Rattle.proto_names.proofs.table.EntryTable.new.Goals as goal

pub invariant_of-result : goal.invariant_of-result
invariant_of-result c = grind (arith, common_steps)
