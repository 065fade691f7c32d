use Rattle.proto_checks.proofs.Common.{arith, sym, gains_each, gains_next, gains_start}
use Rattle.proto_checks.proofs.each.put_each.Goals as goal

pub loop-item-init : goal.loop-item-init
loop-item-init g c = gains_start

pub loop-item-preserved : goal.loop-item-preserved
loop-item-preserved g c =
    gains_next _ (omega arith, sym c.item-item.is) c.loop-item.invariant c.in_ok-put_faults.ensures

pub returns : goal.returns
returns g c = gains_each (omega arith) c.loop-item.invariant
