use Rattle.proto_names.proofs.Common.{common_steps, arith}
use Rattle.proto_names.proofs.Starting.{starts_more, starts_whole}
use Rattle.proto_names.proofs.starts.starts_of.Goals as goal

pub loop-position-preserved : goal.loop-position-preserved
loop-position-preserved c = grind (arith, common_steps, starts_more)

pub returns : goal.returns
returns c = grind (arith, common_steps, starts_whole)
