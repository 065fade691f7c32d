use Rattle.proto_names.proofs.Common.{ℕ, ◌<◌, IsPackage, at}
use Rattle.proto_names.proofs.packages.are_packages.Given as goal

abbrev pub invariant-loop-position : goal.invariant-loop-position
invariant-loop-position l = (k : ℕ) → k < l.position → IsPackage (at l.names k)
