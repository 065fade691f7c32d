use Rattle.std.proofs.Common.{arith}
use Rattle.std.proofs.lemmas.Grind.{common_steps}
use Rattle.bit_matrix.proofs.matrix.BitMatrix.push_row.Goals as goal

pub returns-clause-pushed : goal.returns-clause-pushed
returns-clause-pushed c = grind (arith, common_steps)
