use Rattle.proto_names.proofs.Common.{arith, common_steps}
use Rattle.proto_names.specs.Hashes.{spread}
use Rattle.proto_names.proofs.hashing.spread.Goals as goal

pub returns : goal.returns
unfolding spread
returns c = grind (arith, common_steps)
