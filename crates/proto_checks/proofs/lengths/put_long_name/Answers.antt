use Rattle.proto_checks.proofs.Common.{arith, common_steps, gains_where}
use Rattle.proto_checks.proofs.lengths.put_long_name.Goals as goal

pub returns-then-full-get : goal.returns-then-full-get
returns-then-full-get c = λ scope at.
    gains_where _ _ _ _ (grind (arith, common_steps, c.full_len-full.ensures scope at)) c.put_fault.ensures
