use Rattle.std.proofs.Common.{◌≡◌}
use Rattle.share_samples.proofs.posting.PostingWorkU64.piece.Given as goal

abbrev pub invariant-loop-number : goal.invariant-loop-number
invariant-loop-number l = (l.seat.table ≡ l.fn.seat.table) × (l.seat.view.parts ≡ l.fn.seat.view.parts)
