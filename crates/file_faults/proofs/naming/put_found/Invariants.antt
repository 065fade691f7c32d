use Rattle.std.proofs.Common.{◌≡◌, ◌++◌, map, take}
use Rattle.file_faults.specs.Found.{named_by}
use Rattle.proto_compile.specs.FaultSet.{told_by}
use Rattle.file_faults.proofs.naming.put_found.Given as goal

abbrev pub invariant-loop-fault : goal.invariant-loop-fault
invariant-loop-fault l =
    map told_by l.faults.items ≡ map told_by l.initial.faults.items ++ named_by l.source (take l.fault-index l.found)
