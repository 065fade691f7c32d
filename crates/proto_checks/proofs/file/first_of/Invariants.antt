use Rattle.proto_checks.proofs.Common.{take, Contains}
use Rattle.proto_base.specs.Least.{IsLeast}
use Rattle.proto_checks.proofs.file.first_of.Given as goal

abbrev pub invariant-loop-fault : goal.invariant-loop-fault
invariant-loop-fault l = IsLeast (Contains (take l.fault-index l.faults)) l.first
