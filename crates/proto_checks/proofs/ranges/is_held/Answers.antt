use Rattle.proto_checks.proofs.Common.{arith, leb, and_from, and_parts, nat_tests, any_from_yields_List, list_any-from_Any}
use Rattle.proto_checks.proofs.Intervals.{used_told}
use Rattle.proto_checks.proofs.ranges.is_held.Goals as goal

pub returns-in-Some : goal.returns-in-Some
returns-in-Some c =
    let told = rw c.deref.ensures.value at c.is_reached.ensures in
    let used = used_told _ _ (rw c.in-Some.is at c.requires) c.args.number in
    (λ h. used.0 (told.0 h), λ w. told.1 (used.1 w))

pub returns-in-None : goal.returns-in-None
returns-in-None c = grind (arith, leb, and_from, and_parts, any_from_yields_List, list_any-from_Any, nat_tests)
