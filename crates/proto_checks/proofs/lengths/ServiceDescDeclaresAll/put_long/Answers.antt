use Rattle.proto_checks.proofs.Common.{each_cons, gains_as, gains_last, scoped}
use Rattle.proto_checks.proofs.lengths.ServiceDescDeclaresAll.put_long.Goals as goal

pub returns : goal.returns
returns c = λ scope at.
    let len = rw c.as_str-name.ensures at (c.full_len-len.ensures scope at) in
    gains_as _ _ _ (gains_last _ _ _ (rw c.as_str-name.ensures at (c.in_ok-put_long_name.ensures scope at))
    (rw c.as_slice.ensures at (c.put_long_members.ensures (scoped scope c.args.self.now.name) len))) (each_cons _ _ _)
