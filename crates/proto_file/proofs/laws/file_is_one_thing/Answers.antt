use Rattle.proto_file.proofs.OneLocal.{one_descriptor, no_own, one_local}
use Rattle.proto_file.proofs.laws.file_is_one_thing.Goals as goal

pub returns-clause-one_descriptor : goal.returns-clause-one_descriptor
returns-clause-one_descriptor c = one_descriptor

pub returns-clause-no_fault : goal.returns-clause-no_fault
returns-clause-no_fault c = no_own

pub returns-clause-one_fault : goal.returns-clause-one_fault
returns-clause-one_fault c = one_local
