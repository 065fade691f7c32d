use Rattle.std.proofs.Common.{◌≡◌, ◌++◌, take}
use Rattle.counted_io.specs.Counting.{bytes_of}
use Rattle.counted_io.proofs.counted.log_bytes.Given as goal

abbrev pub invariant-loop-byte : goal.invariant-loop-byte
invariant-loop-byte l = bytes_of l.log.items ≡ bytes_of l.initial.log.items ++ take l.byte-index l.bytes
