use Rattle.source_skip.proofs.Lengths.{skipped_keeps_its_length}
use Rattle.source_skip.proofs.laws.skipping_keeps_lengths.Goals as goal

pub returns : goal.returns
returns c = skipped_keeps_its_length
