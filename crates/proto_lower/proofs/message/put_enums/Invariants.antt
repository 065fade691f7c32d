use Rattle.proto_lower.proofs.Common.{◌≡◌, ◌++◌, take, map, flat_map, message_enum, lowered_enum}
use Rattle.proto_lower.proofs.message.put_enums.Given as goal

abbrev pub invariant-loop-item : goal.invariant-loop-item
invariant-loop-item l = l.out.items ≡ l.initial.out.items
    ++ map lowered_enum (flat_map message_enum (take l.item-index l.items))
