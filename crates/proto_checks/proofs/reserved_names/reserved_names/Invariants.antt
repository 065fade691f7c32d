use Rattle.proto_checks.proofs.Common.{◌≡◌, ◌++◌, map, flat_map, names_in, reserved_name}
use Rattle.proto_checks.proofs.reserved_names.reserved_names.Given as goal

abbrev pub invariant-loop-name : goal.invariant-loop-name
invariant-loop-name g l = l.names.items ++ map reserved_name (map (λ name. name.now) l.name-iterator.rest.items)
    ≡ map reserved_name (flat_map names_in (flat_map g.I.Reserves.reserved_by l.items))
