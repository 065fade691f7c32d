use Rattle.proto_lower.proofs.Common.{◌≡◌, ◌++◌, take, map, flat_map, enum_value, value_desc}
use Rattle.proto_lower.proofs.enumeration.put_values.Given as goal

abbrev pub invariant-loop-item : goal.invariant-loop-item
invariant-loop-item l = l.out.items ≡ l.initial.out.items
    ++ map value_desc (flat_map enum_value (take l.item-index l.items))
