use Rattle.std.proofs.Common.{◌≡◌, take}
use Rattle.file_faults.specs.FaultSpots.{spots_from}
use Rattle.file_faults.proofs.types.joined.Given as goal

abbrev pub invariant-loop-file : goal.invariant-loop-file
invariant-loop-file l = l.spots.items ≡ spots_from 0 (take l.file l.rows)
