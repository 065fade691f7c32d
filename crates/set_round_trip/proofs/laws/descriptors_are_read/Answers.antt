use Rattle.set_round_trip.proofs.Speaking.{file_speaks}
use Rattle.set_round_trip.proofs.laws.descriptors_are_read.Goals as goal

pub returns : goal.returns
returns e = file_speaks
