use Rattle.proto_types.proofs.Common.{take, ◌≡◌, flat_map, references_of_method, FindsIn, IsSpelling}
use Rattle.proto_types.proofs.finder.Finder.service.Given as goal

abbrev pub invariant-loop-method : goal.invariant-loop-method
invariant-loop-method l = record {
  so_far : FindsIn l.initial.self.names (flat_map (references_of_method l.initial.inside.scope.now)
      (take l.method-index l.method-items)) l.initial.found l.found;
  ready : IsSpelling l.initial.self.names l.inside;
  scope : l.inside.scope.now ≡ l.initial.inside.scope.now;
  same : l.self.names ≡ l.initial.self.names;
}
