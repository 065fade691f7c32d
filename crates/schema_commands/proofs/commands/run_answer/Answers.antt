use Rattle.std.proofs.Common.{inl, inr, refl}
use Rattle.schema_compile.proofs.Telling.{handed_on}
use Rattle.schema_commands.proofs.commands.run_answer.Goals as goal

pub returns-in_err-compiled : goal.returns-in_err-compiled
returns-in_err-compiled g c =
    rw (handed_on c.from_residual.result _ c.from_residual.ensures.1)
    (c.standard.result, c.standard.ensures, inl (c.in_err-compiled.ensures.refused, refl, refl))

pub returns : goal.returns
returns g c =
    let ok = c.in_ok-compiled in
    (c.standard.result, c.standard.ensures, inr (ok.compiled, ok.ensures.compiled, c.answer_over.ensures))
