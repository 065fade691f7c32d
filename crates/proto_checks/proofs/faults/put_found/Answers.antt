use Rattle.proto_checks.proofs.Common.{◌≡◌, Some, ap, ◌∙◌, sym, gains_as}
use Rattle.proto_checks.proofs.faults.put_found.Goals as goal

pub returns-in-Some : goal.returns-in-Some
returns-in-Some c = gains_as _ _ _ c.put_fault.ensures (λ x. (
  λ is. c.in-Some.is ∙ ap Some (sym is),
  λ is. let same : c.in-Some.spot ≡ x = cc in sym same,
))
