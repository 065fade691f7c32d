use Rattle.set_round_trip.proofs.Described.{source_described}
use Rattle.set_round_trip.proofs.Fitting.{compiled_fits}
use Rattle.set_round_trip.proofs.laws.descriptors_fit.Goals as goal

pub returns-clause-described : goal.returns-clause-described
returns-clause-described e = source_described

pub returns-clause-resolved : goal.returns-clause-resolved
returns-clause-resolved e = compiled_fits
