use Rattle.proto_names.proofs.Common.{◌≡◌, ◌≤◌, ◌++◌, List, ℕ, length, take, rolling_hash}
use Rattle.proto_names.proofs.hashing.hash_before.Given as goal

abbrev pub invariant-loop-end : goal.invariant-loop-end
invariant-loop-end l = record {
  within : l.end ≤ length l.bytes;
  so_far : (prefix : List ℕ) → l.initial.hash ≡ rolling_hash (prefix ++ l.bytes)
      → l.hash ≡ rolling_hash (prefix ++ take l.end l.bytes);
}

abbrev pub decreases-loop-end : goal.decreases-loop-end
decreases-loop-end l = l.end
