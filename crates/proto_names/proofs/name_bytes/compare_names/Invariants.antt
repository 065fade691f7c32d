use Rattle.proto_names.proofs.Common.{◌≡◌, length}
use Rattle.proto_names.specs.Order.{end_cmp}
use Rattle.proto_names.proofs.name_bytes.compare_names.Given as goal

abbrev pub invariant-loop-first : goal.invariant-loop-first
invariant-loop-first l = end_cmp l.fn.first l.fn.second ≡ end_cmp l.first l.second

abbrev pub decreases-loop-first : goal.decreases-loop-first
decreases-loop-first l = length l.first
