use Rattle.proto_checks.proofs.Common.{arith, rules, leb, nat_tests, Interval}
use Rattle.std.proofs.lemmas.Fn.{always_returns_same}
use Rattle.proto_checks.proofs.Intervals.{reached_told, blank}
use Rattle.proto_checks.proofs.covers.is_reached.Goals as goal

pub returns-then-begun-gt0 : goal.returns-then-begun-gt0
returns-then-begun-gt0 c =
    let begun = c.partition_point-begun.ensures in
    let told = reached_told c.args.cover.now c.args.start c.args.end _ blank c.requires.starts c.requires.ends
    begun.bound (begun.partitioned (λ (a : Interval). leb a.start c.args.end)
    (always_returns_same _ _ _ (λ a r g called. search rules))) in
    grind (arith, nat_tests, told)

pub returns-else-begun-gt0 : goal.returns-else-begun-gt0
returns-else-begun-gt0 c =
    let begun = c.partition_point-begun.ensures in
    let told = reached_told c.args.cover.now c.args.start c.args.end _ blank c.requires.starts c.requires.ends
    begun.bound (begun.partitioned (λ (a : Interval). leb a.start c.args.end)
    (always_returns_same _ _ _ (λ a r g called. search rules))) in
    grind (arith, nat_tests, told)
