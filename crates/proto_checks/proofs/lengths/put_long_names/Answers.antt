use Rattle.proto_checks.proofs.Common.{arith, sym, each_flat, gains_each, gains_next, gains_same, gains_start}
use Rattle.proto_checks.proofs.lengths.put_long_names.Goals as goal

pub loop-element-init : goal.loop-element-init
loop-element-init g c = λ scope at. gains_start

pub loop-element-preserved : goal.loop-element-preserved
loop-element-preserved g c = λ scope at. gains_next _ (omega arith, sym c.element-item.is)
    (c.loop-element.invariant scope at) (c.in_ok-put_long.ensures scope at)

pub returns : goal.returns
returns g c = λ scope at. gains_same (gains_each (omega arith) (c.loop-element.invariant scope at))
    (each_flat _ (g.D.DeclaresAll.declares scope) _)
