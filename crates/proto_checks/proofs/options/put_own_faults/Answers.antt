use Rattle.proto_checks.proofs.Common.{arith, sym, gains_each, gains_next, gains_start}
use Rattle.proto_checks.proofs.options.put_own_faults.Goals as goal

pub loop-setting-init : goal.loop-setting-init
loop-setting-init c = gains_start

pub loop-setting-preserved : goal.loop-setting-preserved
loop-setting-preserved c =
    gains_next _ (omega arith, sym c.setting-item.is) c.loop-setting.invariant c.in_ok-put_found.ensures

pub returns : goal.returns
returns c = gains_each (omega arith) c.loop-setting.invariant
