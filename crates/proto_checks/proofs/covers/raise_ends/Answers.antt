use Rattle.proto_checks.proofs.Common.{◌≡◌, arith, common_steps}
use Rattle.proto_checks.proofs.Intervals.{raised, raised_is, raised_more, blank}
use Rattle.proto_checks.proofs.covers.raise_ends.Goals as goal

pub loop-interval-preserved : goal.loop-interval-preserved
loop-interval-preserved c = grind (arith, raised, raised_more, blank)

pub returns : goal.returns
returns c =
    let all : c.loop-interval.intervals ≡ raised 0 c.args.intervals.now = grind (arith, common_steps) in
    rw all (raised_is c.args.intervals.now c.requires)
