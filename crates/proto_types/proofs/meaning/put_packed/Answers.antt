use Rattle.proto_base.specs.Least.{spot}
use Rattle.proto_base.specs.Sets.{StandsAt}
use Rattle.proto_base.specs.declared.kind.Kind.TheVariants as kind
use Rattle.proto_types.proofs.Common.{arith, ◌∙◌, sym, gains_each, gains_hit, gains_one, gains_pass, gains_start}
use Rattle.proto_types.specs.References.{IsPacked}
use Rattle.std.proofs.lemmas.Bool.{false≢true}
use Rattle.proto_types.proofs.meaning.put_packed.Goals as goal
use Rattle.proto_types.proofs.meaning.put_packed.Goals.{then-is_packed+in_ok-push, else-is_packed}

pub loop-option-init : goal.loop-option-init
loop-option-init c = gains_start

pub loop-option-preserved : goal.loop-option-preserved
loop-option-preserved c =
    let option = c.option-item.result in
    let here : StandsAt c.args.options.now c.loop-option.option-index option = (omega arith, sym c.option-item.is) in
    elim c.if-is_packed.branch [
      | then-is_packed+in_ok-push w ↦ rw w.faults-is
          (gains_hit {P = IsPacked} {at = λ o. spot o.place kind.PackedOnMessage} option here
          (c.is_packed.ensures.0 w.if-is_packed.true) c.loop-option.invariant
          (rw w.in_ok-push.ensures.items (gains_one _ _)))
      | else-is_packed w ↦ rw w.faults-is
          (gains_pass {P = IsPacked} {at = λ o. spot o.place kind.PackedOnMessage} option here
          (λ is. false≢true (sym w.if-is_packed.false ∙ c.is_packed.ensures.1 is)) c.loop-option.invariant)
    ]

pub returns : goal.returns
returns c = gains_each (omega arith) c.loop-option.invariant
