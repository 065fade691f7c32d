use Rattle.proto_types.proofs.Common.{take, references_by_message, AreFilled, IsTypedMessage}
use Rattle.proto_types.proofs.filling.+messages.Given as goal

abbrev pub invariant-fill_messages-loop-position : goal.invariant-fill_messages-loop-position
invariant-fill_messages-loop-position l = goal.unvisited-fill_messages-loop-position l
    × AreFilled (λ scope m. references_by_message m scope) IsTypedMessage (take l.position l.initial.list.items)
    (take l.position l.list.items)
    l.initial.types.items l.types.items
