use Rattle.std.proofs.Common.{◌≡◌, ◌+◌, ◌<◌, ◌++◌, length, reverse, All, sum_by, flat_map}
use Rattle.first_reach.proofs.marking.join_seats.Given as goal

abbrev pub invariant-loop-other : goal.invariant-loop-other
invariant-loop-other g l = (l.seat.table ≡ l.table.table) × (0 < length l.fn.seats.items)
    × All (λ s. s.table ≡ l.table.table) l.seats.items
    × (sum_by (λ s. s.view.least.parts) l.seats.items + l.seat.view.least.parts ≡ sum_by (λ s. s.view.least.parts)
    l.fn.seats.items)
    × (l.seat.view.marks ++ flat_map (λ t. t.view.marks) (reverse l.seats.items) ≡ flat_map (λ t. t.view.marks)
    (reverse l.fn.seats.items))

abbrev pub decreases-loop-other : goal.decreases-loop-other
decreases-loop-other g l = length l.seats.items
