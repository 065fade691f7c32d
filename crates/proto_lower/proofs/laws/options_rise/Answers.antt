use Rattle.proto_lower.proofs.OptionsRise.{options_of-rise}
use Rattle.proto_lower.proofs.laws.options_rise.Goals as goal

pub returns : goal.returns
returns c = record { rise = options_of-rise }
