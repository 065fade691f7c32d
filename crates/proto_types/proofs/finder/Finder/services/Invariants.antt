use Rattle.proto_types.proofs.Common.{take, ◌≡◌, flat_map, references_of_service, FindsIn}
use Rattle.proto_types.proofs.finder.Finder.services.Given as goal

abbrev pub invariant-loop-service : goal.invariant-loop-service
invariant-loop-service l = record {
  so_far : FindsIn l.initial.self.names (flat_map (references_of_service l.scope) (take l.service-index l.services))
      l.initial.found l.found;
  same : l.self.names ≡ l.initial.self.names;
}
