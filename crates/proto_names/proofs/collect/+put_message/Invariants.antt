use Rattle.proto_names.proofs.Common.{◌≡◌, ◌++◌, map, take, flat_map, declared_by_message, declared_occurrence}
use Rattle.proto_desc.proofs.Declared.{declared_before, scope_in}
use Rattle.proto_names.specs.Entries.{IsScopeAmong, scope_name}
use Rattle.proto_names.proofs.collect.+put_message.Given as goal

abbrev pub invariant-loop-nested : goal.invariant-loop-nested
invariant-loop-nested l = record {
  put : l.entries ≡ l.fn.entries ++ map (declared_occurrence l.file)
      (declared_before l.message (scope_name l.fn.entries l.fn.scope)
      ++ flat_map (λ n. declared_by_message n (scope_in l.message (scope_name l.fn.entries l.fn.scope)))
      (take l.nested-index l.nested-items));
  among : IsScopeAmong l.entries l.inside;
  named : scope_name l.entries l.inside ≡ scope_in l.message (scope_name l.fn.entries l.fn.scope);
}
