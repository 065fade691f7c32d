use Rattle.std.proofs.Common.{◌≡◌}
use Rattle.test_shares.proofs.tests.least_tables.post_and_read.Given as goal

abbrev pub invariant-loop : goal.invariant-loop
invariant-loop l = l.seat.table ≡ l.fn.seat.table
