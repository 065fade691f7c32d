use Rattle.proto_types.proofs.Common.{gains_one}
use Rattle.proto_types.proofs.found.Found.add.Goals as goal

pub returns-in_ok-push-in-Wrong : goal.returns-in_ok-push-in-Wrong
returns-in_ok-push-in-Wrong c = rw c.in-Wrong.is (rw c.in_ok-push-in-Wrong.ensures.items (gains_one _ _))
