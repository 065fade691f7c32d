use Rattle.proto_checks.proofs.Common.{each_single, gains_as}
use Rattle.proto_checks.proofs.enumeration.EnumItemCheck.put_faults.Goals as goal

pub returns-in-Value : goal.returns-in-Value
returns-in-Value c = rw c.in-Value.is
    (gains_as _ _ _ (rw c.get.ensures at c.put_value_faults.ensures) (each_single _ _))
