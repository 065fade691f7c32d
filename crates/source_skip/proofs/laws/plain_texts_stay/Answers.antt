use Rattle.source_skip.proofs.Plain.{nothing_goes, plain_stays}
use Rattle.source_skip.proofs.laws.plain_texts_stay.Goals as goal

pub returns-clause-none_goes : goal.returns-clause-none_goes
returns-clause-none_goes c = nothing_goes

pub returns-clause-none_begins : goal.returns-clause-none_begins
returns-clause-none_begins c = plain_stays
