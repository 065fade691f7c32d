use Rattle.std.proofs.Common.{◌≤◌}
use Rattle.source_folder.specs.Walking.{most_sources, steps_left}
use Rattle.source_folder.proofs.walk.sources_below.Given as goal

abbrev pub invariant-loop-folder : goal.invariant-loop-folder
invariant-loop-folder g l = most_sources l.walk ≤ 1048576

abbrev pub decreases-loop-folder : goal.decreases-loop-folder
decreases-loop-folder g l = steps_left l.walk
