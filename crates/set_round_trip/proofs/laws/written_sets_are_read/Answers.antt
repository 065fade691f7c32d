use Rattle.set_round_trip.proofs.Fitting.{read_named_sources}
use Rattle.set_round_trip.proofs.Named.{read_named}
use Rattle.set_round_trip.proofs.laws.written_sets_are_read.Goals as goal

pub returns-clause-read : goal.returns-clause-read
returns-clause-read e = read_named_sources

pub returns-clause-named : goal.returns-clause-named
returns-clause-named e = read_named
