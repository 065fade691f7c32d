use Rattle.std.proofs.Common.{inl, inr, refl}
use Rattle.schema_compile.proofs.Telling.{handed_on}
use Rattle.schema_serve.proofs.serve.run_serve_set.Goals as goal

pub returns-in_err-compiled : goal.returns-in_err-compiled
returns-in_err-compiled g c =
    rw (handed_on c.from_residual.result _ c.from_residual.ensures.1)
    (c.standard.result, c.standard.ensures, inl (c.in_err-compiled.ensures.refused, refl))

pub returns : goal.returns
returns g c = (
  c.standard.result,
  c.standard.ensures,
  inr (c.in_ok-compiled.compiled, c.in_ok-compiled.ensures.compiled, c.serve_over.ensures),
)
