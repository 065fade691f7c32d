use Rattle.proto_checks.proofs.Common.{each_cons, gains_as, gains_last}
use Rattle.proto_checks.proofs.lengths.EnumDescDeclaresAll.put_long.Goals as goal

pub returns : goal.returns
returns c = λ scope at. gains_as _ _ _ (gains_last _ _ _
    (rw c.as_str.ensures at (c.in_ok-put_long_name.ensures scope at))
    (rw c.as_slice.ensures at (c.put_long_members.ensures scope at))) (each_cons _ _ _)
