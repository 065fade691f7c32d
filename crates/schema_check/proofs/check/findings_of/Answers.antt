use Rattle.std.proofs.Common.{List, subst, sym}
use Rattle.proto_base.specs.declared.fault.Fault.{Fault}
use Rattle.schema_check.specs.Told.{ArePlaced}
use Rattle.schema_check.proofs.check.findings_of.Goals as goal

pub shown_report-requires-clause-placed : goal.shown_report-requires-clause-placed
shown_report-requires-clause-placed g c =
    let P : List Fault → Type 0 = λ faults. ArePlaced c.args.sources.now faults in
    subst P (sym c.as_slice-faults.ensures.value) c.in_ok-faults.ensures.placed
