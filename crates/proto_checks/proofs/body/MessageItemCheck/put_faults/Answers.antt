use Rattle.proto_checks.proofs.Common.{on_ok_weaker}
use Rattle.proto_checks.proofs.Elements.{of_first, of_third}
use Rattle.proto_checks.proofs.body.MessageItemCheck.put_faults.Goals as goal

pub returns-in-Field : goal.returns-in-Field
returns-in-Field c = rw c.in-Field.is (on_ok_weaker _ (of_first _) (rw c.get.ensures at c.put_field_faults.ensures))

pub returns-in-Oneof : goal.returns-in-Oneof
returns-in-Oneof c = rw (c.in-Oneof.is, ← c.get-in-Oneof.ensures) c.put_oneof_item_faults.ensures

pub returns-in-Map : goal.returns-in-Map
returns-in-Map c = rw c.in-Map.is
    (on_ok_weaker _ (of_first _) (rw c.get-in-Map.ensures at c.put_field_option_faults.ensures))

pub returns-in-Enum : goal.returns-in-Enum
returns-in-Enum c = rw c.in-Enum.is
    (on_ok_weaker _ (of_third _) (rw c.get-in-Enum.ensures at c.put_enum_faults.ensures))
