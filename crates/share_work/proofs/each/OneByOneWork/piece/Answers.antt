use Rattle.share_work.proofs.Common.{arith, refl, slice_get_read}
use Rattle.share_work.proofs.Giving.{gives_next}
use Rattle.share_work.proofs.each.OneByOneWork.piece.Goals as goal

pub overflow_add-first : goal.overflow_add-first
overflow_add-first g c =
    let item = slice_get_read c.args.items.now _ c.loop-k.k _ refl (omega arith) c.index-items-k.is in
    record { fits = omega (arith, (c.requires.takes c.loop-k.k c.index-items-k.result item).0) }

pub item-requires : goal.item-requires
item-requires g c = grind (arith, slice_get_read)

pub loop-k-preserved : goal.loop-k-preserved
loop-k-preserved g c =
    rw c.in_ok-push.ensures.items (gives_next (g.W.ItemWork.gives c.args.self.now.work.now) c.args.first
    c.args.items.now c.loop-k.k _ _ _ (omega arith) c.index-items-k.is c.loop-k.invariant c.in_ok-item.ensures.gives)
