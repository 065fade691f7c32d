use Rattle.proto_names.proofs.Common.{arith, common_steps}
use Rattle.proto_names.specs.Entries.{occurrences_of_named}
use Rattle.proto_names.proofs.entries.Entries.new.Goals as goal

pub returns : goal.returns
unfolding occurrences_of_named
returns c = grind (arith, common_steps)
