use Rattle.std.proofs.Common.{◌≡◌, take}
use Rattle.first_reach.proofs.Marks.{HasMarked}
use Rattle.first_reach.proofs.marking.MarkingWorkOptionUsize.piece.Given as goal

abbrev pub invariant-loop-k : goal.invariant-loop-k
invariant-loop-k g l = (l.seat.table ≡ l.fn.seat.table) × (l.seat.view.least.parts ≡ l.fn.seat.view.least.parts)
    × HasMarked (g.F.Reach.list l.self.table.now.reach) l.first (take l.k l.items) l.fn.seat l.seat
