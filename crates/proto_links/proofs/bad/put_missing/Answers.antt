use Rattle.proto_links.proofs.Common.{arith}
use Rattle.proto_links.proofs.AllBad.{bad_all}
use Rattle.proto_links.proofs.bad.put_missing.Goals as goal

pub returns : goal.returns
returns c = bad_all c.loop-file.invariant (omega arith)
