use Rattle.proto_names.proofs.Common.{◌≢◌, ℕ, ◌<◌, scoped, at}
use Rattle.proto_names.proofs.starts.Starts.start_of.Given as goal

-- none of those before the position has the name
abbrev pub invariant-loop-position : goal.invariant-loop-position
invariant-loop-position l = (k : ℕ) → k < l.position → (at l.names k).name ≢ scoped l.scope l.name
