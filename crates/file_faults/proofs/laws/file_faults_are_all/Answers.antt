use Rattle.file_faults.proofs.Telling.{every_fault, no_other, one_list}
use Rattle.file_faults.proofs.laws.file_faults_are_all.Goals as goal

pub returns-clause-one_list : goal.returns-clause-one_list
returns-clause-one_list c = one_list

pub returns-clause-every : goal.returns-clause-every
returns-clause-every c = every_fault

pub returns-clause-no_other : goal.returns-clause-no_other
returns-clause-no_other c = no_other
