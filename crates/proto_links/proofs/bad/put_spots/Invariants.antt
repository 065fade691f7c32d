use Rattle.proto_links.proofs.Common.{◌≡◌, ◌++◌, map, take}
use Rattle.proto_links.specs.Graphs.{spot_of_file}
use Rattle.proto_links.proofs.bad.put_spots.Given as goal

abbrev pub invariant-loop-spot : goal.invariant-loop-spot
invariant-loop-spot l = l.bad.items ≡ l.initial.bad.items ++ map (spot_of_file l.file) (take l.spot-index l.spots)
