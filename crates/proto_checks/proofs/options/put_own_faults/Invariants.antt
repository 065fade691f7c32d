use Rattle.proto_checks.proofs.Common.{GainsTo, IsFaultOf}
use Rattle.proto_checks.proofs.options.put_own_faults.Given as goal

abbrev pub invariant-loop-setting : goal.invariant-loop-setting
invariant-loop-setting l =
    GainsTo l.settings IsFaultOf l.setting-index l.initial.faults.items l.faults.items
