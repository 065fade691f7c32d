use Rattle.share_work.proofs.Common.{ap, arith, TableValue}
use Rattle.share_work.proofs.Steps.{one_table, look_allows}
use Rattle.share_work.proofs.least_table.LeastTable.least.Goals as goal

pub load-requires : goal.load-requires
load-requires c =
    let count = ap (λ (b : TableValue). b.count) c.self.view_is in
    let mine = one_table c.seat.view_is c.self.view_is c.requires.0 in
    (mine, omega arith, look_allows _ _ _ _ _ _ (omega arith) (omega arith))
