use Rattle.proto_checks.proofs.Common.{gains_one}
use Rattle.proto_checks.proofs.faults.put_fault.Goals as goal

pub returns : goal.returns
returns c = rw c.in_ok-push.ensures.items (gains_one _ _)
