use Rattle.proto_checks.proofs.Common.{GainsTo}
use Rattle.proto_checks.proofs.each.put_each.Given as goal

abbrev pub invariant-loop-item : goal.invariant-loop-item
invariant-loop-item g l = GainsTo l.items g.C.Check.breaks l.item-index l.initial.faults.items l.faults.items
