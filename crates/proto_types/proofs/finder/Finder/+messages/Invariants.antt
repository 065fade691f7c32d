use Rattle.proto_types.proofs.Common.{take, ◌≡◌, flat_map, references_by_message, FindsIn, IsSpelling}
use Rattle.proto_types.proofs.finder.Finder.+messages.Given as goal

abbrev pub invariant-messages-loop-message : goal.invariant-messages-loop-message
invariant-messages-loop-message l = record {
  so_far : FindsIn l.initial.self.names (flat_map (λ m. references_by_message m l.initial.outer.scope.now)
      (take l.message-index l.messages)) l.initial.found l.found;
  ready : IsSpelling l.initial.self.names l.outer;
  scope : l.outer.scope.now ≡ l.initial.outer.scope.now;
  same : l.self.names ≡ l.initial.self.names;
}
