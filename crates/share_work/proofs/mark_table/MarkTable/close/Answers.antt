use Rattle.share_work.proofs.Common.{◌≡◌, ◌^◌, slice_index, ap, arith, MarkSeatValue}
use Rattle.share_work.proofs.MarkSteps.{IsMarkClosed, mark_closes}
use Rattle.share_work.proofs.mark_table.MarkTable.close.Given as given
use Rattle.share_work.proofs.mark_table.MarkTable.close.Goals as goal

closed : (g : given.Over) (c : goal.After-words_at_close g)
    → IsMarkClosed (g.R.Reach.files c.self.inside.table.shared.key)
    (g.R.Reach.list c.self.inside.table.shared.key) c.words_at_close.ensures.words.0
    c.seat.inside.seat.me.0
closed g c =
    let parts : c.seat.inside.seat.me.0.least.parts ≡ 2 ^ 32 = omega arith in
    let f = c.words_at_close.ensures.words.1.1.0 in
    mark_closes _ _ _ _ _ parts c.seat.invariant.4 _ _ f.1.0 f.1.1 f.2

pub returns-clause-least : goal.returns-clause-least
returns-clause-least g c = grind (arith, closed, slice_index)

pub returns-clause-posted : goal.returns-clause-posted
returns-clause-posted g c = grind (arith, closed, slice_index)

pub returns-clause-legal : goal.returns-clause-legal
returns-clause-legal g c = rw (← (ap (λ (t : MarkSeatValue). t.view) c.seat.view_is)) (closed g c).base.legal

pub returns-clause-told : goal.returns-clause-told
returns-clause-told g c = rw (← (ap (λ (t : MarkSeatValue). t.view) c.seat.view_is)) (closed g c).base.told
