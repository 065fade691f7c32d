use Rattle.std.proofs.Common.{◌≡◌, map, take}
use Rattle.file_faults.specs.Found.{faults_in}
use Rattle.proto_compile.specs.FaultSet.{told_by}
use Rattle.file_faults.proofs.naming.all_named.Given as goal

abbrev pub invariant-loop-at : goal.invariant-loop-at
invariant-loop-at l = map told_by l.faults.items ≡ faults_in (take l.at l.files) (take l.at l.found)
