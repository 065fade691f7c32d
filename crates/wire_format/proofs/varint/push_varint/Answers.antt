use Rattle.std.proofs.Common.{arith, ap, length, length-append}
use Rattle.wire_format.proofs.Varints.{varint_bytes-small, varint_bytes-step}
use Rattle.std.proofs.lemmas.Grind.{common_steps}
use Rattle.wire_format.proofs.varint.push_varint.Goals as goal

pub loop-rest-preserved : goal.loop-rest-preserved
loop-rest-preserved c = grind (arith, common_steps, varint_bytes-step)

pub returns-clause-appended : goal.returns-clause-appended
returns-clause-appended c = grind (arith, common_steps, varint_bytes-small)

pub returns-in_err-push-clause-full : goal.returns-in_err-push-clause-full
returns-in_err-push-clause-full c =
    grind (arith, common_steps, varint_bytes-step, simp length-append at (ap length c.loop-rest.invariant.whole))

pub returns-in_err-push-2-clause-full : goal.returns-in_err-push-2-clause-full
returns-in_err-push-2-clause-full c =
    grind (arith, common_steps, varint_bytes-small, simp length-append at (ap length c.loop-rest.invariant.whole))
