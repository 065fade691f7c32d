use Rattle.proto_lower.proofs.Common.{◌≡◌, ◌++◌, take, flat_map, nested_of}
use Rattle.proto_lower.proofs.message.+messages.Given as goal

abbrev pub invariant-put_nested-loop-item : goal.invariant-put_nested-loop-item
invariant-put_nested-loop-item l =
    (l.scope ≡ l.full) × (l.out.items ≡ l.fn.out.items ++ flat_map (nested_of l.full) (take l.item-index l.items))
