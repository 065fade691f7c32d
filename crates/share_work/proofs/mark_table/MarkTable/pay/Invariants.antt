use Rattle.std.proofs.Common.{◌≡◌, ◌+◌, ◌-◌, ◌==◌, length}
use Rattle.share_work.proofs.Paying.{IsPaying}
use Rattle.share_work.proofs.mark_table.MarkTable.pay.Given as goal

abbrev pub ghosts-pay_one : goal.ghosts-pay_one
ghosts-pay_one g a = record { last = (a.position + 1) == length (g.R.Reach.list a.self.now.reach a.root) }

abbrev pub invariant-loop-file : goal.invariant-loop-file
invariant-loop-file g l =
    (l.seat.table_id ≡ l.initial.seat.table_id) × (l.seat.me.1 ≡ l.initial.seat.me.1)
    × IsPaying l.initial.seat.me.0 l.seat.me.0 l.root l.number l.k (g.R.Reach.list l.self.reach l.root)

abbrev pub decreases-loop-file : goal.decreases-loop-file
decreases-loop-file g l = length (g.R.Reach.list l.self.reach l.root) - l.k
