use Rattle.schema_check.proofs.Telling.{first_told}
use Rattle.schema_check.proofs.told.first_fault.Goals as goal

pub returns-in-Ok : goal.returns-in-Ok
returns-in-Ok g c = (c.in-Ok.field-0, c.in-Ok.ensures.compiled)

pub returns-in-Err-First : goal.returns-in-Err-First
returns-in-Err-First g c =
    first_told c.args.limits.now c.args.sources.now c.in-Err-First.field-0 c.in-Err-First.fault
    c.in-Err-First.field-0-is
    c.in-Err-First.ensures.first c.in-Err-First.ensures.placed
