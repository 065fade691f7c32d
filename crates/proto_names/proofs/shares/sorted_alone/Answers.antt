use Rattle.std.proofs.Common.{arith}
use Rattle.proto_names.proofs.Built.{all_below}
use Rattle.proto_names.proofs.shares.sorted_alone.Goals as goal

pub sort_alone-requires-clause-inside : goal.sort_alone-requires-clause-inside
sort_alone-requires-clause-inside c = grind (arith, all_below)
