use Rattle.proto_names.proofs.Common.{◌≤◌}
use Rattle.proto_names.proofs.scope_hashes.count_scopes.Given as goal

abbrev pub invariant-loop-position : goal.invariant-loop-position
invariant-loop-position l = l.count ≤ l.position
