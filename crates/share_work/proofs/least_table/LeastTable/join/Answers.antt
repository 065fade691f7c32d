use Rattle.std.proofs.Common.{◌∙◌, arith}
use Rattle.share_work.proofs.Steps.{one_table, IsKept-join, count_allows}
use Rattle.share_work.proofs.least_table.LeastTable.join.Goals as goal

pub join_seat-requires : goal.join_seat-requires
join_seat-requires c = (
  one_table c.seat.view_is c.self.view_is c.requires.0,
  one_table c.other.view_is c.self.view_is c.requires.1,
  c.other.invariant.0,
  omega arith,
  λ s k at apart at'. IsKept-join _ _ _ _ _ at (omega arith) k _ _ at',
)

pub load-requires : goal.load-requires
load-requires c =
    (c.join_seat.ensures.0 ∙ one_table c.seat.view_is c.self.view_is c.requires.0, omega arith, count_allows _ _ _ _ _)
