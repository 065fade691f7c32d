use Rattle.std.proofs.Common.{◌≡◌, ◌∙◌, ap, arith, cond}
use Rattle.std.proofs.lemmas.Grind.{common_steps}
use Rattle.std.specs.Ordering.{nat_cmp, ordering_then, is_lt}
use Rattle.proto_base.specs.declared.spot.Spot.{Spot}
use Rattle.proto_base.specs.Kind.{number_of}
use Rattle.proto_base.proofs.KindOrder.{by_number}
use Rattle.proto_base.proofs.spot.lesser.Goals as goal

pub returns-in-Some-Some : goal.returns-in-Some-Some
returns-in-Some-Some c =
    let x : Spot = c.in-Some-Some.x in
    let y : Spot = c.in-Some-Some.y in
    let places = nat_cmp y.place.offset x.place.offset in
    let chosen : c.min.result ≡ cond (is_lt (ordering_then places (nat_cmp (number_of y.kind) (number_of x.kind)))) y
    x =
    c.min.ensures ∙ ap (λ o. cond (is_lt (ordering_then places o)) y x) (by_number y.kind x.kind) in
    grind (arith, common_steps)
