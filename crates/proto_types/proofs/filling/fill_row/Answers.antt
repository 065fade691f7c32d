use Rattle.std.proofs.Common.{arith, rules}
use Rattle.proto_types.proofs.Walking.{filled_next}
use Rattle.proto_types.proofs.filling.fill_row.Goals as goal

pub loop-position-preserved : goal.loop-position-preserved
loop-position-preserved g c =
    filled_next c.loop-position.invariant (search (rules, arith)) c.index_mut.ensures.value c.fill.ensures
