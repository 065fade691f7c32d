use Rattle.std.proofs.Common.{string_bytes, take}
use Rattle.schema_check.proofs.Reporting.{IsTold}
use Rattle.schema_check.proofs.report.put_blocks.Given as goal

abbrev pub invariant-loop-at : goal.invariant-loop-at
invariant-loop-at l = IsTold l.form l.limits l.places l.sources (take l.at l.faults) l.file
    (string_bytes l.initial.report) (string_bytes l.report)
