use Rattle.proto_checks.proofs.Common.{each_single, gains_as}
use Rattle.proto_checks.proofs.body.OneofItemCheck.put_faults.Goals as goal

pub returns-in-Field : goal.returns-in-Field
returns-in-Field c = rw c.in-Field.is
    (gains_as _ _ _ (rw c.get.ensures at c.put_member_faults.ensures) (each_single _ _))
