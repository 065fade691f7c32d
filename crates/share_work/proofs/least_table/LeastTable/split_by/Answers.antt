use Rattle.share_work.proofs.Common.{ap, arith, SeatValue}
use Rattle.share_work.proofs.Steps.{one_table, IsKept-split}
use Rattle.share_work.proofs.least_table.LeastTable.split_by.Goals as goal

pub split_seat-other-requires : goal.split_seat-other-requires
split_seat-other-requires g c =
    let parts = ap (λ (t : SeatValue). t.view.parts) c.seat.view_is in (
      one_table c.seat.view_is c.self.view_is c.requires.0,
      omega arith,
      λ s k at. IsKept-split _ _ _ _ _ at (omega (arith, c.requires.1)) k _ (omega (arith, c.requires.1))
          (omega (arith, c.requires.1)),
    )
