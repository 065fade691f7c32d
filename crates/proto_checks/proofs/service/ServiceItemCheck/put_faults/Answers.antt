use Rattle.proto_checks.proofs.Common.{each_single, gains_as}
use Rattle.proto_checks.proofs.service.ServiceItemCheck.put_faults.Goals as goal

pub returns-in-Rpc : goal.returns-in-Rpc
returns-in-Rpc c = rw c.in-Rpc.is (gains_as _ _ _ (rw c.get.ensures at c.put_method_faults.ensures) (each_single _ _))
