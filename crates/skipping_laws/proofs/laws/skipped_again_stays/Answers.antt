use Rattle.source_skip.specs.Skipped.{skipped}
use Rattle.skipping_laws.proofs.Files.{file_stays}
use Rattle.skipping_laws.proofs.laws.skipped_again_stays.Goals as goal

pub returns : goal.returns
returns c = λ limits name text desc is. file_stays limits name (skipped text) desc is
