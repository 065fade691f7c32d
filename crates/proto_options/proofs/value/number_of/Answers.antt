use Rattle.std.proofs.Common.{rules}
use Rattle.proto_options.proofs.value.number_of.Goals as goal

pub returns-in-Some : goal.returns-in-Some
returns-in-Some c = search rules
