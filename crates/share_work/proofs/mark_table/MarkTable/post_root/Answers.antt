use Rattle.share_work.proofs.Common.{sym, ap, ◌∙◌, arith, MarkTableValue}
use Rattle.share_work.proofs.MarkSteps.{root_allows}
use Rattle.share_work.proofs.mark_table.MarkTable.post_root.Goals as goal

pub fetch_min-requires : goal.fetch_min-requires
fetch_min-requires g c =
    let key_is = ap (λ (b : MarkTableValue g.row.R.Denot). b.reach) c.self.view_is in
    let mark = rw (← key_is) at c.requires.mark in (
      c.requires.seat.0 ∙ (λ i. (sym c.self.view_is i).table),
      omega arith,
      root_allows _ _ _ _ _ _ c.requires.seat.1 (g.met.R.Reach.reflexive _) c.requires.seat.2 _ _ mark.0 mark.1,
    )
