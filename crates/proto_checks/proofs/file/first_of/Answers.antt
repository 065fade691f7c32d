use Rattle.proto_checks.proofs.Common.{get_or, arith, take_all, take_more}
use Rattle.proto_base.proofs.Sets.{least_none}
use Rattle.proto_checks.proofs.Earliest.{least_push, no_spot}
use Rattle.proto_checks.proofs.file.first_of.Goals as goal

pub loop-fault-init : goal.loop-fault-init
loop-fault-init c = least_none _ (λ x (k, below, is). absurd (omega (arith, below)))

pub loop-fault-preserved : goal.loop-fault-preserved
loop-fault-preserved c =
    let at = c.loop-fault.fault-index in
    let here = get_or c.args.faults.now at no_spot in
    rw (take_more c.args.faults.now at no_spot c.loop-fault-test.true)
    (least_push _ here _ _ c.loop-fault.invariant c.lesser-first.ensures)

pub returns : goal.returns
returns c = rw (take_all c.loop-fault.fault-index c.args.faults.now (omega arith)) at c.loop-fault.invariant
