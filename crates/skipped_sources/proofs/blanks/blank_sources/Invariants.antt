use Rattle.std.proofs.Common.{◌≡◌, ◌++◌, drop, map, take}
use Rattle.source_folder.specs.Folder.{named_bytes}
use Rattle.skipped_sources.specs.Losing.{all_blanked}
use Rattle.skipped_sources.proofs.blanks.blank_sources.Given as goal

abbrev pub invariant-loop-position : goal.invariant-loop-position
invariant-loop-position l = take l.position (map named_bytes l.sources)
    ++ all_blanked (drop l.position (map named_bytes l.sources)) (drop l.position l.lists)
    ≡ all_blanked (map named_bytes l.initial.sources) l.lists
