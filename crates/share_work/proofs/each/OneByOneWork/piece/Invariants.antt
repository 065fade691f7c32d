use Rattle.share_work.proofs.Common.{take, GivesItems}
use Rattle.share_work.proofs.each.OneByOneWork.piece.Given as goal

abbrev pub invariant-loop-k : goal.invariant-loop-k
invariant-loop-k g l = GivesItems (g.W.ItemWork.gives l.self.work.now) l.first (take l.k l.items) l.outs.items
