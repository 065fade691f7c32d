use Rattle.share_work.proofs.Common.{◌<◌, length, slice_get, sym, refl, ap, ◌∙◌, arith, MarkTableValue}
use Rattle.share_work.proofs.Paying.{get_some, paying_none, debt_now, paying_more, paying_all}
use Rattle.share_work.proofs.mark_table.MarkTable.pay.Goals as goal

pub loop-file-init : goal.loop-file-init
loop-file-init g c = let reached = g.met.R.Reach.reflexive _ _ c.requires.seat.2 in
    (refl, refl, paying_none _ _ _ _ _ reached c.requires.debt)

pub pay_one-requires-clause-debt : goal.pay_one-requires-clause-debt
pay_one-requires-clause-debt g c =
    let key_is = ap (λ (b : MarkTableValue g.row.R.Denot). b.reach) c.self.view_is in
    let at = rw (c.self.invariant.3 ∙ key_is) at (sym c.in-Some.ensures) in
    (debt_now _ _ _ _ _ _ c.loop-file.invariant.2 (get_some _ _ _ at).0, at, refl)

pub loop-file-smaller : goal.loop-file-smaller
loop-file-smaller g c =
    let key_is = ap (λ (b : MarkTableValue g.row.R.Denot). b.reach) c.self.view_is in
    let at = rw (c.self.invariant.3 ∙ key_is) at (sym c.in-Some.ensures) in
    let here : c.loop-file.k < length (g.R.Reach.list c.args.self.now.reach c.args.root) = (get_some _ _ _ at).0 in
    omega arith

pub loop-file-preserved : goal.loop-file-preserved
loop-file-preserved g c = grind (arith, get_some, paying_more, slice_get)

pub returns : goal.returns
returns g c =
    let key_is = ap (λ (b : MarkTableValue g.row.R.Denot). b.reach) c.self.view_is in
    let at_self = rw (c.self.invariant.3 ∙ key_is) at (sym c.reached.ensures ∙ c.in_default.is) in
    let all = paying_all _ _ _ _ _ _ c.loop-file.invariant.2 at_self in
    (all.0, all.1, (λ i. (all.2 i, c.loop-file.invariant.1 i)), c.loop-file.invariant.0)
