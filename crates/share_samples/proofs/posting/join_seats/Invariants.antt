use Rattle.std.proofs.Common.{◌≡◌, length, All}
use Rattle.share_samples.proofs.posting.join_seats.Given as goal

abbrev pub invariant-loop-other : goal.invariant-loop-other
invariant-loop-other l = (l.seat.table ≡ l.table.table) × All (λ s. s.table ≡ l.table.table) l.seats.items

abbrev pub decreases-loop-other : goal.decreases-loop-other
decreases-loop-other l = length l.seats.items
