use Rattle.proto_names.proofs.Common.{arith}
use Rattle.proto_names.specs.Hashes.{spread}
use Rattle.proto_names.proofs.hashing.unspread.Goals as goal

pub returns : goal.returns
unfolding spread
returns c rolling low is = omega (arith, low, is)
