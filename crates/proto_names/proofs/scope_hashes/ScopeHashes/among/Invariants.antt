use Rattle.proto_names.proofs.Common.{◌≤◌, ◌<◌, take, columns_of, TellsScopes}
use Rattle.proto_names.proofs.scope_hashes.ScopeHashes.among.Given as goal

abbrev pub invariant-loop-position : goal.invariant-loop-position
invariant-loop-position l =
    (0 < l.bits.rows) × (l.slots ≤ columns_of l.bits) × TellsScopes (take l.position l.names) l.bits l.slots
