use Rattle.proto_names.proofs.Common.{◌≡◌, ◌+◌, length}
use Rattle.proto_names.proofs.name_bytes.NameBytes.is_within.Given as goal

abbrev pub invariant-loop-left : goal.invariant-loop-left
invariant-loop-left l = length l.fn.self + l.room ≡ length l.left + l.most

abbrev pub decreases-loop-left : goal.decreases-loop-left
decreases-loop-left l = length l.left
