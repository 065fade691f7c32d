use Rattle.schema_compile.proofs.Telling.{handed_on}
use Rattle.std.proofs.Common.{◌∙◌, inl, inr, refl}
use Rattle.schema_commands.proofs.commands.run_explain.Goals as goal

pub returns-in_err-page : goal.returns-in_err-page
returns-in_err-page g c = rw (handed_on c.from_residual.result _ c.from_residual.ensures.1) (inl (refl, refl))

pub returns : goal.returns
returns g c =
    let same = c.as_bytes.ensures.value ∙ c.in_ok-page.ensures in
    inr (rw same at c.write_part.ensures)
