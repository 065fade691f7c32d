use Rattle.proto_names.proofs.Common.{◌≤◌, ◌-◌, length, columns_of, ArePackagesOf}
use Rattle.proto_names.proofs.packages.Packages.among.Given as goal

abbrev pub invariant-loop-start : goal.invariant-loop-start
invariant-loop-start l =
    ArePackagesOf l.names l.packages.runs.items l.packages.files × (l.files ≤ columns_of l.packages.files)
    × (l.start ≤ length l.names)

abbrev pub decreases-loop-start : goal.decreases-loop-start
decreases-loop-start l = length l.names - l.start
