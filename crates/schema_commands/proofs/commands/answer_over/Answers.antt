use Rattle.std.proofs.Common.{refl}
use Rattle.schema_compile.proofs.Telling.{handed_on}
use Rattle.schema_commands.proofs.commands.answer_over.Goals as goal

pub returns-in_err-exchanged : goal.returns-in_err-exchanged
returns-in_err-exchanged g c =
    let err = c.in_err-exchanged in
    rw (handed_on c.from_residual.result _ c.from_residual.ensures.1)
    (err.field-0.0, refl, rw err.was at c.answer_io-exchanged.ensures.exchange)
