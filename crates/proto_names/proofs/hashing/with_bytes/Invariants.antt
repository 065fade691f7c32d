use Rattle.proto_names.proofs.Common.{◌≡◌, take, fold, hash_step}
use Rattle.proto_names.proofs.hashing.with_bytes.Given as goal

abbrev pub invariant-loop-byte : goal.invariant-loop-byte
invariant-loop-byte l = (l.hash ≡ fold hash_step l.start (take l.byte-index l.bytes))
