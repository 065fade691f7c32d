use Rattle.proto_lower.proofs.MessageLaws.{optional-index-lowered, sole-member-lowered, optional-oneof-lowered, count-lowered}
use Rattle.proto_lower.proofs.laws.optional_field_has_its_oneof.Goals as goal

pub returns-clause-index : goal.returns-clause-index
returns-clause-index c = optional-index-lowered

pub returns-clause-sole : goal.returns-clause-sole
returns-clause-sole c = sole-member-lowered

pub returns-clause-oneof : goal.returns-clause-oneof
returns-clause-oneof c = optional-oneof-lowered

pub returns-clause-count : goal.returns-clause-count
returns-clause-count c = count-lowered
