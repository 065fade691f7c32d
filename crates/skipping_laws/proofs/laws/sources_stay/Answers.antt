use Rattle.skipping_laws.proofs.Sources.{sources_stay}
use Rattle.skipping_laws.proofs.laws.sources_stay.Goals as goal

pub returns : goal.returns
returns c = sources_stay
