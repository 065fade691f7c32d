use Rattle.proto_names.proofs.Common.{◌≡◌, ◌++◌, map, take, declared_occurrence}
use Rattle.proto_names.specs.Entries.{IsScopeAmong, scope_name}
use Rattle.proto_names.proofs.collect.put_members.Given as goal

abbrev pub invariant-loop-member : goal.invariant-loop-member
invariant-loop-member g l = record {
  put : l.entries ≡ l.initial.entries ++ map (declared_occurrence l.file)
      (map (g.D.Declares.declared (scope_name l.initial.entries l.scope)) (take l.member-index l.members));
  among : IsScopeAmong l.entries l.scope;
  named : scope_name l.entries l.scope ≡ scope_name l.initial.entries l.scope;
}
