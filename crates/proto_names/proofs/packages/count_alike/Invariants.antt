use Rattle.std.proofs.Common.{◌<◌, ◌≤◌, ◌-◌, length}
use Rattle.proto_names.proofs.packages.count_alike.Given as goal

abbrev pub invariant-loop-end : goal.invariant-loop-end
invariant-loop-end l = (l.start < l.end) × (l.end ≤ length l.names)

abbrev pub decreases-loop-end : goal.decreases-loop-end
decreases-loop-end l = length l.names - l.end
