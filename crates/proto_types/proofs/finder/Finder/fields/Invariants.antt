use Rattle.proto_types.proofs.Common.{take, ◌≡◌, flat_map, references_of_field, FindsIn, IsSpelling}
use Rattle.proto_types.proofs.finder.Finder.fields.Given as goal

abbrev pub invariant-loop-field : goal.invariant-loop-field
invariant-loop-field l = record {
  so_far : FindsIn l.initial.self.names (flat_map (references_of_field l.initial.inner.scope.now)
      (take l.field-index l.fields)) l.initial.found l.found;
  ready : IsSpelling l.initial.self.names l.inner;
  scope : l.inner.scope.now ≡ l.initial.inner.scope.now;
  same : l.self.names ≡ l.initial.self.names;
}
