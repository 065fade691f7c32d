use Rattle.std.proofs.Common.{arith}
use Rattle.digraph.proofs.Sharing.{always_on_err, view_kept, length_kept, view_pushed, within_more, within_pushed, list_at, range_inside, extended_length}
use Rattle.digraph.proofs.lists.Lists.push_extended.Goals as goal

pub returns-in_err-start-clause-unchanged : goal.returns-in_err-start-clause-unchanged
returns-in_err-start-clause-unchanged c = grind (arith, always_on_err, view_kept)

pub returns-in_err-push-clause-unchanged : goal.returns-in_err-push-clause-unchanged
returns-in_err-push-clause-unchanged c = grind (arith, always_on_err, view_kept)

pub invariant_of-self-in_err-push : goal.invariant_of-self-in_err-push
invariant_of-self-in_err-push c = grind (arith, length_kept, within_more)

pub invariant_of-self-2 : goal.invariant_of-self-2
invariant_of-self-2 c = grind (arith, extended_length, range_inside, within_pushed)

pub returns-clause-appended : goal.returns-clause-appended
returns-clause-appended c = grind (arith, extended_length, list_at, range_inside, view_pushed)
