use Rattle.proto_checks.proofs.Common.{each_append, gains_as, gains_last, gains_same, gains_union}
use Rattle.proto_checks.proofs.lengths.put_long_inside.Goals as goal

pub returns : goal.returns
returns c = λ scope at. gains_as _ _ _ (gains_last _ _ _ (gains_same (gains_union
    (c.in_ok-put_long_members.ensures scope at) (c.in_ok-put_long_members-2.ensures scope at)) (each_append _ _ _))
    (c.put_long_names.ensures scope at)) (each_append _ _ _)
