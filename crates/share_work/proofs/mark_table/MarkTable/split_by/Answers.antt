use Rattle.share_work.proofs.Common.{ap, arith, MarkSeatValue}
use Rattle.share_work.proofs.MarkSteps.{one_table, IsMarked-split}
use Rattle.share_work.proofs.mark_table.MarkTable.split_by.Goals as goal

pub split_seat-other-requires : goal.split_seat-other-requires
split_seat-other-requires g c =
    let parts = ap (λ (t : MarkSeatValue). t.view.least.parts) c.seat.view_is in (
      one_table c.seat.view_is c.self.view_is c.requires.0,
      omega arith,
      λ s k at. IsMarked-split _ _ _ _ _ _ at (omega (arith, c.requires.1)) k c.seat.invariant.4 _
          (omega (arith, c.requires.1)) (omega (arith, c.requires.1)),
    )
