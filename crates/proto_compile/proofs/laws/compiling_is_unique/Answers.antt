use Rattle.proto_compile.proofs.Alike.{alike}
use Rattle.proto_compile.proofs.LeastFault.{no_fault_at_all, one_least}
use Rattle.proto_compile.proofs.laws.compiling_is_unique.Goals as goal

pub returns-clause-one_compilation : goal.returns-clause-one_compilation
returns-clause-one_compilation c = alike

pub returns-clause-no_fault : goal.returns-clause-no_fault
returns-clause-no_fault c limits sources d x compiled fault = no_fault_at_all limits sources d x compiled fault.breaks

pub returns-clause-one_fault : goal.returns-clause-one_fault
returns-clause-one_fault c = one_least
