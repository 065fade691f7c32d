use Rattle.proto_checks.proofs.Common.{refl, ap, ◌∙◌, sym, gains_as, one_at, spot, StandsAt, MarkedNumber}
use Rattle.std.proofs.lemmas.Option.{get_or_from_slice_get, slice_get_within}
use Rattle.proto_base.specs.declared.kind.Kind.TheVariants as kind
use Rattle.proto_checks.proofs.numbers.put_first_not_zero.Goals as goal

pub returns-in-Some : goal.returns-in-Some
returns-in-Some c =
    let here = c.in-Some.marked.now in
    let got = sym c.in-Some.ensures.value in
    let stands : StandsAt c.args.numbers.now 0 here =
    (slice_get_within c.args.numbers.now 0 here got, get_or_from_slice_get c.args.numbers.now 0 here here got) in
    gains_as _ _ _ c.put_fault.ensures (λ x. (
      λ is. (here, stands, c.if-marked-ne-VALUE_ZERO.true, is),
      λ w. w.3 ∙ ap (λ (n : MarkedNumber). spot n.place kind.EnumFirstNotZero) (one_at _ 0 0 w.0 here refl w.1 stands),
    ))
