use Rattle.proto_names.proofs.Common.{arith, get_or_default, blank}
use Rattle.proto_names.proofs.entries.Entries.first_longer.Goals as goal

pub returns : goal.returns
returns c = λ k d h. rw (get_or_default c.args.self.now k d blank h)
    (c.loop-position.invariant k (omega (arith, h, c.loop-position-test.false, c.len-position-end.ensures)))
