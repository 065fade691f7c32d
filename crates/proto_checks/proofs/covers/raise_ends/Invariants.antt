use Rattle.std.proofs.Common.{◌≡◌, ◌++◌, take, drop}
use Rattle.proto_checks.proofs.Intervals.{raised}
use Rattle.proto_checks.proofs.covers.raise_ends.Given as goal

abbrev pub invariant-loop-interval : goal.invariant-loop-interval
invariant-loop-interval l = take l.interval-index l.intervals
    ++ raised l.top (drop l.interval-index l.intervals) ≡ raised 0 l.initial.intervals
