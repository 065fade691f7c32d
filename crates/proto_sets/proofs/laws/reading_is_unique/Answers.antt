use Rattle.proto_sets.proofs.Alike.{alike}
use Rattle.proto_sets.proofs.LeastFault.{one_least}
use Rattle.proto_sets.proofs.PassLeast.{no_fault_at_all}
use Rattle.proto_sets.proofs.laws.reading_is_unique.Goals as goal

pub returns-clause-one_compilation : goal.returns-clause-one_compilation
returns-clause-one_compilation c = alike

pub returns-clause-no_fault : goal.returns-clause-no_fault
returns-clause-no_fault c limits set d x is fault = no_fault_at_all limits set d x is fault.breaks

pub returns-clause-one_fault : goal.returns-clause-one_fault
returns-clause-one_fault c = one_least
