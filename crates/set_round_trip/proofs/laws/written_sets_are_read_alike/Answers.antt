use Rattle.set_round_trip.proofs.Alike.{alike}
use Rattle.set_round_trip.proofs.laws.written_sets_are_read_alike.Goals as goal

pub returns : goal.returns
returns c = alike
