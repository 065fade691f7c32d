use Rattle.std.proofs.Common.{◌≡◌, ◌≤◌, ℕ, List, ◌++◌}
use Rattle.std.specs.Vec.{vec_capacity}
use Rattle.wire_format.specs.Varint.{varint_bytes}
use Rattle.wire_format.proofs.varint.push_varint.Given as goal

abbrev pub invariant-loop-rest : goal.invariant-loop-rest
invariant-loop-rest l = record {
  whole : l.out.items ++ varint_bytes l.rest ≡ l.fn.out.items ++ varint_bytes l.value;
  prefix : (prefix : List ℕ) × (l.out.items ≡ l.fn.out.items ++ prefix);
  capacity : vec_capacity l.fn.out ≤ vec_capacity l.out;
}

abbrev pub decreases-loop-rest : goal.decreases-loop-rest
decreases-loop-rest l = l.rest
