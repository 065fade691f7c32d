use Rattle.proto_lower.proofs.MessageLaws.{source-oneof-lowered, members-lowered}
use Rattle.proto_lower.proofs.laws.oneof_index_is_its_own.Goals as goal

pub returns-clause-oneof : goal.returns-clause-oneof
returns-clause-oneof c = source-oneof-lowered

pub returns-clause-members : goal.returns-clause-members
returns-clause-members c = members-lowered
