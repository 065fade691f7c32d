use Rattle.share_work.proofs.Common.{ap, arith, TableValue}
use Rattle.share_work.proofs.Steps.{one_table, post_allows}
use Rattle.share_work.proofs.least_table.LeastTable.post.Goals as goal

pub fetch_min-requires : goal.fetch_min-requires
fetch_min-requires c =
    let count = ap (λ (b : TableValue). b.count) c.self.view_is in (
      one_table c.seat.view_is c.self.view_is c.requires.0,
      omega arith,
      post_allows _ _ _ _ _ _ _ (omega arith) (omega arith) c.requires.2,
    )
