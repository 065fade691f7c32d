use Rattle.share_work.proofs.Common.{◌≡◌, ◌^◌, slice_index, ap, arith, SeatValue}
use Rattle.share_work.proofs.Steps.{IsClosed, closes}
use Rattle.share_work.proofs.least_table.LeastTable.close.Goals as goal

closed : (c : goal.After-words_at_close)
    → IsClosed c.self.inside.table.shared.key (c.words_at_close.ensures.words.0) c.seat.inside.seat.me.0
closed c =
    let parts : c.seat.inside.seat.me.0.parts ≡ 2 ^ 32 = omega arith in
    let f = c.words_at_close.ensures.words.1.1.0 in closes _ _ _ _ parts _ _ f.1.0 f.1.1 f.2

pub returns-clause-least : goal.returns-clause-least
returns-clause-least c = grind (arith, closed, slice_index)

pub returns-clause-legal : goal.returns-clause-legal
returns-clause-legal c = rw (← (ap (λ (t : SeatValue). t.view) c.seat.view_is)) (closed c).legal

pub returns-clause-told : goal.returns-clause-told
returns-clause-told c = rw (← (ap (λ (t : SeatValue). t.view) c.seat.view_is)) (closed c).told
