use Rattle.skipping_laws.proofs.Files.{file_stays}
use Rattle.skipping_laws.proofs.laws.files_stay.Goals as goal

pub returns : goal.returns
returns c = file_stays
