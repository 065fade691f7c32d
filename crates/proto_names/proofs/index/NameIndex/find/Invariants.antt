use Rattle.proto_names.proofs.Common.{◌≡◌, ℕ, ◌<◌, length, None, at}
use Rattle.proto_names.proofs.index.NameIndex.find.Given as goal

abbrev pub invariant-loop-position : goal.invariant-loop-position
invariant-loop-position l = (k : ℕ) → k < l.position → k < length l.names → (at l.names k).kind ≡ None
