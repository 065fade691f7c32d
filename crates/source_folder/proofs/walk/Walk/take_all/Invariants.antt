use Rattle.std.proofs.Common.{◌≤◌}
use Rattle.source_folder.specs.Walking.{most_sources, steps_left}
use Rattle.source_folder.proofs.walk.Walk.take_all.Given as goal

abbrev pub invariant-loop-entry : goal.invariant-loop-entry
invariant-loop-entry g l = record {
  ends : steps_left l.self ≤ steps_left l.fn.self;
  counted : most_sources l.self ≤ most_sources l.fn.self;
}
