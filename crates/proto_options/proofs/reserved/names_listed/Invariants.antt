use Rattle.std.proofs.Common.{◌≡◌, take, flat_map, map}
use Rattle.proto_options.specs.Statements.{names_in}
use Rattle.proto_options.proofs.reserved.names_listed.Given as goal

abbrev pub invariant-loop-item : goal.invariant-loop-item
invariant-loop-item g l = map (λ name. name.now) l.names.items
    ≡ flat_map names_in (flat_map g.I.Reserves.reserved_by (take l.item-index l.items))
