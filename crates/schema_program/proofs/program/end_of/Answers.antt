use Rattle.std.proofs.Common.{◌∙◌}
use Rattle.schema_program.proofs.program.end_of.Goals as goal

pub returns-in-Ok : goal.returns-in-Ok
returns-in-Ok g c = rw c.in-Ok.is
    (c.perform-done.result, c.perform-done.ensures, c.finish-status.ensures ∙ c.with_reason-done.ensures)
