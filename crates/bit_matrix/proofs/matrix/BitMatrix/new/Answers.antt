use Rattle.std.proofs.Common.{rules}
use Rattle.bit_matrix.proofs.matrix.BitMatrix.new.Goals as goal

pub returns-clause-columns : goal.returns-clause-columns
returns-clause-columns c = search rules
