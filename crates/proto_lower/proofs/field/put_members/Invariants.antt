use Rattle.proto_lower.proofs.Common.{◌≡◌, ◌++◌, take, map, flat_map, oneof_field, member_at}
use Rattle.proto_lower.proofs.field.put_members.Given as goal

abbrev pub invariant-loop-item : goal.invariant-loop-item
invariant-loop-item l = l.out.items ≡ l.initial.out.items
    ++ map (member_at l.number) (flat_map oneof_field (take l.item-index l.items))
