use Rattle.proto_names.proofs.Common.{common_steps, arith}
use Rattle.proto_names.proofs.Starting.{rolling_below, hash_end}
use Rattle.proto_names.proofs.hashing.hash_before.Goals as goal

pub loop-end-preserved : goal.loop-end-preserved
loop-end-preserved c = grind (arith, common_steps, rolling_below, hash_end)
