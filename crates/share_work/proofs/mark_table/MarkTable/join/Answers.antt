use Rattle.std.proofs.Common.{◌∙◌, arith}
use Rattle.share_work.proofs.MarkSteps.{one_table, IsMarked-join, mark_count_allows}
use Rattle.share_work.proofs.mark_table.MarkTable.join.Goals as goal

pub join_seat-requires : goal.join_seat-requires
join_seat-requires g c = (
  one_table c.seat.view_is c.self.view_is c.requires.0,
  one_table c.other.view_is c.self.view_is c.requires.1,
  c.other.invariant.0,
  omega arith,
  λ s k at apart at'. IsMarked-join _ _ _ _ _ _ at (omega arith) k c.seat.invariant.4 _ _ c.other.invariant.4 at' apart,
)

pub load-requires : goal.load-requires
load-requires g c =
    let mine = one_table c.seat.view_is c.self.view_is c.requires.0 in
    (c.join_seat.ensures.0 ∙ mine, omega arith, mark_count_allows _ _ _ _ _ _)
