use Rattle.std.proofs.Common.{◌≡◌, ◌+◌, ◌^◌, length, All, sum_by, []}
use Rattle.first_reach.proofs.marking.split_seats.Given as goal

abbrev pub invariant-loop-other : goal.invariant-loop-other
invariant-loop-other g l = (l.seat.table ≡ l.table.table) × (l.seat.view.marks ≡ [])
    × (length l.seats.items + 1 ≡ l._other)
    × (l.seat.view.least.parts + length l.seats.items ≡ 2 ^ 32)
    × (sum_by (λ s. s.view.least.parts) l.seats.items ≡ length l.seats.items)
    × All (λ s. s.table ≡ l.table.table) l.seats.items × All (λ s. s.view.marks ≡ []) l.seats.items
