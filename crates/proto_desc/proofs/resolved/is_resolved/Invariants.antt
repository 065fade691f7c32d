use Rattle.std.proofs.Common.{◌≡◌, true, take}
use Rattle.std.specs.List.{list_all}
use Rattle.proto_desc.specs.Resolved.{message_resolved}
use Rattle.proto_desc.proofs.resolved.is_resolved.Given as goal

abbrev pub invariant-loop-message : goal.invariant-loop-message
invariant-loop-message l = list_all message_resolved (take l.message-index l.message-items) ≡ true
