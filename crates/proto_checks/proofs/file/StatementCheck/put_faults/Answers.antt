use Rattle.proto_checks.proofs.Common.{on_ok_weaker}
use Rattle.proto_checks.proofs.Elements.{of_first, of_second, of_third}
use Rattle.proto_checks.proofs.file.StatementCheck.put_faults.Goals as goal

pub returns-in-Message : goal.returns-in-Message
returns-in-Message c = rw c.in-Message.is
    (on_ok_weaker _ (of_first _) (rw c.get.ensures at c.put_message_faults.ensures))

pub returns-in-Enum : goal.returns-in-Enum
returns-in-Enum c = rw c.in-Enum.is
    (on_ok_weaker _ (of_second _) (rw c.get-in-Enum.ensures at c.put_enum_faults.ensures))

pub returns-in-Service : goal.returns-in-Service
returns-in-Service c = rw c.in-Service.is
    (on_ok_weaker _ (of_third _) (rw c.get-in-Service.ensures at c.put_service_faults.ensures))
