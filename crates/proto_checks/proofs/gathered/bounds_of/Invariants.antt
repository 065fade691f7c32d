use Rattle.proto_checks.proofs.Common.{◌≡◌, take, flat_map, bounds_of}
use Rattle.proto_checks.proofs.gathered.bounds_of.Given as goal

abbrev pub invariant-loop-range : goal.invariant-loop-range
invariant-loop-range g l = l.bounds.items ≡ flat_map bounds_of (take l.range-index l.listed)
