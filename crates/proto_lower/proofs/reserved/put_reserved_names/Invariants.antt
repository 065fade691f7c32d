use Rattle.proto_lower.proofs.Common.{◌≡◌, ◌++◌, map, flat_map, joined, names_in}
use Rattle.proto_lower.proofs.reserved.put_reserved_names.Given as goal

abbrev pub invariant-loop-name : goal.invariant-loop-name
invariant-loop-name g l = l.out.items ++ map joined (map (λ name. name.now) l.name-iterator.rest.items)
    ≡ l.fn.out.items ++ map joined (flat_map names_in (flat_map g.I.Reserves.reserved_by l.items))
