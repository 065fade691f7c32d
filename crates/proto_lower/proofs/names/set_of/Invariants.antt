use Rattle.proto_lower.proofs.Common.{map, take, HoldsTaken}
use Rattle.proto_lower.proofs.names.set_of.Given as goal

abbrev pub invariant-loop-name : goal.invariant-loop-name
invariant-loop-name l = HoldsTaken (map (λ name. name.now) (take l.name-index l.names)) l.set
