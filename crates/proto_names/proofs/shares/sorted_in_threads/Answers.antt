use Rattle.std.proofs.Common.{arith}
use Rattle.proto_names.proofs.Built.{all_below}
use Rattle.proto_names.proofs.shares.sorted_in_threads.Goals as goal

pub sort_in_threads-requires-clause-inside : goal.sort_in_threads-requires-clause-inside
sort_in_threads-requires-clause-inside g c lives some k d within = grind (arith, all_below)
