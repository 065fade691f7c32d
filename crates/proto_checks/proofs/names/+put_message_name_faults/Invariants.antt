use Rattle.proto_checks.proofs.Common.{GainsTo, Each, names_of, MessageNamesBreak}
use Rattle.proto_checks.proofs.names.+put_message_name_faults.Given as goal

abbrev pub invariant-loop-nested : goal.invariant-loop-nested
invariant-loop-nested l = GainsTo l.nested-items (λ n. Each (names_of n) MessageNamesBreak) l.nested-index
    l.initial.faults.items l.faults.items
