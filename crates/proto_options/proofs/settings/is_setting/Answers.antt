use Rattle.std.proofs.Common.{rules}
use Rattle.proto_options.proofs.settings.is_setting.Goals as goal

pub returns-in-Some : goal.returns-in-Some
returns-in-Some c = search rules
