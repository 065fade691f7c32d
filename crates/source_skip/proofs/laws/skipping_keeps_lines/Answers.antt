use Rattle.source_skip.proofs.LineEnds.{skipped_keeps_lines}
use Rattle.source_skip.proofs.laws.skipping_keeps_lines.Goals as goal

pub returns : goal.returns
returns c = skipped_keeps_lines
