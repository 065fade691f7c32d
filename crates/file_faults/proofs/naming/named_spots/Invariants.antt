use Rattle.std.proofs.Common.{◌≡◌, map, take}
use Rattle.file_faults.specs.FaultSpots.{fault_at}
use Rattle.proto_compile.specs.FaultSet.{told_by}
use Rattle.file_faults.proofs.naming.named_spots.Given as goal

abbrev pub invariant-loop-found : goal.invariant-loop-found
invariant-loop-found l = map told_by l.faults.items ≡ map (fault_at l.pass l.descs) (take l.found-index l.spots)
