use Rattle.proto_checks.proofs.Common.{refl, false≢true, gains_as, gains_none}
use Rattle.proto_base.specs.declared.kind.Kind.TheVariants as kind
use Rattle.proto_checks.proofs.numbers.put_values_twice.Goals.{then-is_rising-via-then-is_rising, then-is_rising-via-else-is_rising+then-is_aliasing}
use Rattle.proto_checks.proofs.numbers.put_values_twice.Goals as goal

pub returns-then-is_rising : goal.returns-then-is_rising
returns-then-is_rising c = elim c.then-is_rising.branch [
  | then-is_rising-via-then-is_rising w ↦
      gains_none (λ x twice. w.if-is_rising.ensures refl kind.EnumNumberTwice x twice.1)
  | then-is_rising-via-else-is_rising+then-is_aliasing w ↦
      gains_none (λ x twice. twice.0 (w.if-is_aliasing.ensures.0 refl))
]

pub returns : goal.returns
returns c = gains_as _ _ _ c.put_unordered_twice.ensures
    (λ x. (λ twice. (λ aliasing. false≢true (c.if-is_aliasing.ensures.1 aliasing), twice), λ w. w.1))
