use Rattle.proto_names.proofs.Common.{◌≡◌, ◌+◌, ◌*◌, ◌%◌, ◌<◌, ℕ, take, fold, hash_step}
use Rattle.proto_names.proofs.hashing.HashedName.new.Given as goal

abbrev pub invariant-loop-byte : goal.invariant-loop-byte
invariant-loop-byte l = (before : ℕ) → before < 4294967296
    → fold hash_step before (take l.byte-index l.byte-items) ≡ (before * l.power + l.rolling) % 4294967296
