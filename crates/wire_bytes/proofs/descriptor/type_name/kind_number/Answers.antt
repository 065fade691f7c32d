use Rattle.std.proofs.Common.{rules}
use Rattle.wire_bytes.proofs.descriptor.type_name.kind_number.Goals as goal

pub returns-in-Message : goal.returns-in-Message
returns-in-Message c = search rules

pub returns-in-Enum : goal.returns-in-Enum
returns-in-Enum c = search rules
