use Rattle.std.proofs.Common.{◌∙◌, inr, refl}
use Rattle.schema_compile.proofs.Telling.{handed_on}
use Rattle.schema_serve.specs.Runs.{unbegun, unheard}
use Rattle.schema_serve.proofs.Cutting.{cut_in_line}
use Rattle.schema_serve.proofs.serve.serve_over.Goals as goal

pub returns-in_err-service : goal.returns-in_err-service
returns-in_err-service g c =
    rw (handed_on c.from_residual.result _ c.from_residual.ensures.1)
    (unheard (inr refl) refl)

pub returns-in_err-listening : goal.returns-in_err-listening
returns-in_err-listening g c =
    rw (handed_on c.from_residual-in_err-listening.result _ c.from_residual-in_err-listening.ensures.1)
    (unheard c.in_err-listening.ensures.failed refl)

pub returns-in_err-line : goal.returns-in_err-line
returns-in_err-line g c =
    rw (handed_on c.from_residual-in_err-line.result _ c.from_residual-in_err-line.ensures.1)
    (unheard (inr refl) refl)

pub returns-in_err-write_bytes : goal.returns-in_err-write_bytes
returns-in_err-write_bytes g c =
    rw (handed_on c.from_residual-in_err-write_bytes.result _ c.from_residual-in_err-write_bytes.ensures.1)
    (cut_in_line c.args.task.now c.as_bytes.result.now _ _ c.address-address.result c.in_err-write_bytes.field-0.0
    (rw c.address-address.ensures c.in_ok-listening.ensures.bound) (c.as_bytes.ensures.value ∙ c.in_ok-line.ensures.ok)
    c.in_err-write_bytes.ensures)

pub returns-in_err-ended : goal.returns-in_err-ended
returns-in_err-ended g c =
    rw (handed_on c.from_residual-in_err-ended.result _ c.from_residual-in_err-ended.ensures.1)
    (unbegun refl c.address-address.result (rw c.address-address.ensures c.in_ok-listening.ensures.bound)
    (rw (c.as_bytes.ensures.value ∙ c.in_ok-line.ensures.ok) at c.in_ok-write_bytes.ensures))

pub returns : goal.returns
returns g c = (
  c.in_ok-service.service,
  c.in_ok-service.ensures,
  c.address-address.result,
  rw c.address-address.ensures c.in_ok-listening.ensures.bound,
  rw (c.as_bytes.ensures.value ∙ c.in_ok-line.ensures.ok) at c.in_ok-write_bytes.ensures,
  rw c.address-address.ensures c.in_ok-ended.ensures,
)
