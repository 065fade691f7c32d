use Rattle.skipped_sources.proofs.Blanking.{keeps_length}
use Rattle.skipped_sources.proofs.laws.lost_imports_keep_lengths.Goals as goal

pub returns : goal.returns
returns c = λ limits names text new is. rw is.2 (keeps_length 0 is.0 text)
