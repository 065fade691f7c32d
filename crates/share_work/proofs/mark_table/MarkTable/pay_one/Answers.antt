use Rattle.share_work.proofs.Common.{sym, ap, ◌∙◌, arith, MarkTableValue}
use Rattle.share_work.proofs.Paying.{get_some, owed_here, owed_next}
use Rattle.share_work.proofs.MarkSteps.{paid_allows}
use Rattle.share_work.proofs.mark_table.MarkTable.pay_one.Goals as goal

pub overflow_add-file : goal.overflow_add-file
overflow_add-file g c =
    let key_is = ap (λ (b : MarkTableValue g.row.R.Denot). b.reach) c.self.view_is in
    let reached = (get_some _ _ _ c.requires.debt.1).3 in
    let inside = rw (← key_is) at (g.met.R.Reach.within _ _ _ c.requires.seat.2 reached) in
    omega (arith, inside, c.self.invariant.2, c.self.invariant.0)

pub fetch_min-requires : goal.fetch_min-requires
fetch_min-requires g c =
    let key_is = ap (λ (b : MarkTableValue g.row.R.Denot). b.reach) c.self.view_is in
    let debt = rw (← key_is) at c.requires.debt in let seat = rw (← key_is) at c.requires.seat in
    let inside = g.met.R.Reach.within _ _ _ seat.2 (get_some _ _ _ debt.1).3 in let v = c.args.seat.now.me.0 in (
      c.requires.seat.0 ∙ (λ i. (sym c.self.view_is i).table),
      omega (arith, inside, c.self.invariant.0),
      paid_allows _ _ _ _ _ _ c.requires.seat.1 (g.met.R.Reach.transitive _) _ _ _ _
          (owed_here _ v _ _ _ _ debt.0 debt.1)
          (owed_next _ v _ _ _ _ _ debt.0 debt.1 debt.2) inside,
    )
