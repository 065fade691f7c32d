use Rattle.proto_types.proofs.Common.{GainsTo, SetsPacked}
use Rattle.proto_types.proofs.meaning.put_packed.Given as goal

abbrev pub invariant-loop-option : goal.invariant-loop-option
invariant-loop-option l = GainsTo l.options SetsPacked l.option-index l.initial.faults.items l.faults.items
