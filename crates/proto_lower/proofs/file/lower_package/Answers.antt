use Rattle.std.proofs.Common.{rules}
use Rattle.proto_lower.proofs.file.lower_package.Goals as goal

pub returns-in_ok-dotted-in-Some : goal.returns-in_ok-dotted-in-Some
returns-in_ok-dotted-in-Some c = search rules

pub returns-in-None : goal.returns-in-None
returns-in-None c = search rules
