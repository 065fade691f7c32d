use Rattle.std.proofs.Common.{◌≡◌, true, take}
use Rattle.std.specs.List.{list_all}
use Rattle.proto_desc.specs.Resolved.{message_resolved}
use Rattle.proto_desc.proofs.resolved.+message_resolved.Given as goal

abbrev pub invariant-loop-nested : goal.invariant-loop-nested
invariant-loop-nested l = list_all message_resolved (take l.nested-index l.nested-items) ≡ true
