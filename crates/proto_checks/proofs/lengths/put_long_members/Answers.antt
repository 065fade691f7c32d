use Rattle.proto_checks.proofs.Common.{arith, sym, each_map, gains_each, gains_next, gains_same, gains_start}
use Rattle.proto_checks.proofs.lengths.put_long_members.Goals as goal

pub loop-member-init : goal.loop-member-init
loop-member-init g c = λ scope at. gains_start

pub loop-member-preserved : goal.loop-member-preserved
loop-member-preserved g c = λ scope at. gains_next _ (omega arith, sym c.member-item.is)
    (c.loop-member.invariant scope at)
    (rw (c.declared_name-declared.ensures scope) (c.in_ok-put_long_name.ensures scope at))

pub returns : goal.returns
returns g c = λ scope at. gains_same (gains_each (omega arith) (c.loop-member.invariant scope at))
    (each_map _ (g.D.Declares.declared scope) _)
