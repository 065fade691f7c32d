use Rattle.proto_names.proofs.Starting.{ending_first, ending_more}
use Rattle.proto_names.proofs.hashing.HashedName.new.Goals as goal

pub loop-byte-init : goal.loop-byte-init
loop-byte-init c = λ before small. ending_first before small

pub loop-byte-preserved : goal.loop-byte-preserved
loop-byte-preserved c = λ before small. rw (c.with_byte-power.ensures, c.with_byte-rolling.ensures)
    (ending_more c.as_bytes-byte-items.result.now c.loop-byte.byte-index 0 c.loop-byte.power c.loop-byte.rolling
    c.loop-byte-test.true c.loop-byte.invariant before small)
