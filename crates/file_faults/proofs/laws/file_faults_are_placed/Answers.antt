use Rattle.file_faults.proofs.Placing.{placed}
use Rattle.file_faults.proofs.laws.file_faults_are_placed.Goals as goal

pub returns : goal.returns
returns c = placed
