use Rattle.proto_names.proofs.Common.{◌≡◌, length}
use Rattle.proto_names.specs.Order.{end_cmp}
use Rattle.proto_names.proofs.name_bytes.compare_bytes.Given as goal

abbrev pub invariant-loop-order : goal.invariant-loop-order
invariant-loop-order l = end_cmp l.fn.first l.fn.second ≡ end_cmp l.first l.second

abbrev pub decreases-loop-order : goal.decreases-loop-order
decreases-loop-order l = length l.first
