use Rattle.std.proofs.lemmas.Grind.{common_steps}
use Rattle.std.proofs.Common.{rules, arith}
use Rattle.source_folder.proofs.bytes.first_bytes.Goals as goal

pub returns-clause-bounded : goal.returns-clause-bounded
returns-clause-bounded g c = search rules

pub returns-clause-prefix : goal.returns-clause-prefix
returns-clause-prefix g c = grind (arith, common_steps)
