use Rattle.std.proofs.Common.{◌+◌, ◌*◌, ◌-◌, length}
use Rattle.share_work.proofs.shares.rows.+chain.Given as goal

abbrev pub decreases-low_and_high : goal.decreases-low_and_high
decreases-low_and_high g l = 4 * (length l.low.now + length l.high.now) - 1

abbrev pub decreases-low_and_high-back : goal.decreases-low_and_high-back
decreases-low_and_high-back g l = 4 * length l.high.now + 1

abbrev pub decreases-rows_from : goal.decreases-rows_from
decreases-rows_from g l = 4 * length l.seats.now
