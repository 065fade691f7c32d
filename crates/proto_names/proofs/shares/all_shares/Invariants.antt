use Rattle.std.proofs.Common.{◌≡◌, ℕ, length, Some, slice_get}
use Rattle.proto_names.specs.declared.share.Share.{Share}
use Rattle.proto_names.proofs.shares.all_shares.Given as goal

abbrev pub invariant-loop-position : goal.invariant-loop-position
invariant-loop-position l = record {
  count : length l.shares.items ≡ l.position;
  each : (k : ℕ) (s : Share) → slice_get l.shares.items k ≡ Some s → (s.position ≡ k) × (s.count ≡ l.count);
}
