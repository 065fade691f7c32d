use Rattle.std.proofs.Common.{◌≡◌, take, flat_map}
use Rattle.proto_options.specs.Statements.{ranges_in}
use Rattle.proto_options.proofs.reserved.ranges_listed.Given as goal

abbrev pub invariant-loop-item : goal.invariant-loop-item
invariant-loop-item g l =
    l.ranges.items ≡ flat_map ranges_in (flat_map g.I.Reserves.reserved_by (take l.item-index l.items))
