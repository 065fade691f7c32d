use Rattle.std.proofs.Common.{arith}
use Rattle.proto_names.proofs.Once.{run_longer, run_new}
use Rattle.proto_names.proofs.twice.run_at.Goals as goal

pub returns-then-continues : goal.returns-then-continues
returns-then-continues c =
    let (some, same) = c.continues.ensures.same c.if-continues.true in
    run_longer c.args.names.now c.args.position c.run_with.result.start c.run_with.result.has_element some same
    c.run_with.ensures

pub returns-else-continues : goal.returns-else-continues
returns-else-continues c = grind (arith, run_new)
