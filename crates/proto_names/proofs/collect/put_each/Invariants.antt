use Rattle.proto_names.proofs.Common.{◌≡◌, ◌++◌, map, take, flat_map, declared_occurrence}
use Rattle.proto_names.specs.Entries.{IsScopeAmong, scope_name}
use Rattle.proto_names.proofs.collect.put_each.Given as goal

abbrev pub invariant-loop-element : goal.invariant-loop-element
invariant-loop-element g l = record {
  put : l.entries ≡ l.initial.entries ++ map (declared_occurrence l.file)
      (flat_map (g.C.Collect.declares (scope_name l.initial.entries l.scope)) (take l.element-index l.elements));
  among : IsScopeAmong l.entries l.scope;
  named : scope_name l.entries l.scope ≡ scope_name l.initial.entries l.scope;
}
