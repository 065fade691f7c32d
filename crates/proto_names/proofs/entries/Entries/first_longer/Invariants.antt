use Rattle.proto_names.proofs.Common.{ℕ, ◌<◌, ◌≤◌, length, at}
use Rattle.proto_names.proofs.entries.Entries.first_longer.Given as goal

abbrev pub invariant-loop-position : goal.invariant-loop-position
invariant-loop-position l = (j : ℕ) → j < l.position → length (at l.self j).name ≤ l.most
