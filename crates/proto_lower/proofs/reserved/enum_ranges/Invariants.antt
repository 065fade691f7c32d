use Rattle.proto_lower.proofs.Common.{◌≡◌, take, map, enum_range}
use Rattle.proto_lower.proofs.reserved.enum_ranges.Given as goal

abbrev pub invariant-loop-range : goal.invariant-loop-range
invariant-loop-range l = l.ranges.items ≡ map enum_range (take l.range-index l.range-items)
