use Rattle.std.proofs.Common.{◌≡◌, ◌++◌, map, take}
use Rattle.file_faults.specs.FaultSpots.{in_file}
use Rattle.file_faults.proofs.types.put_row.Given as goal

abbrev pub invariant-loop-spot : goal.invariant-loop-spot
invariant-loop-spot l = l.spots.items ≡ l.initial.spots.items ++ map (in_file l.file) (take l.spot-index l.row)
