use Rattle.std.proofs.Common.{◌≡◌, map, take}
use Rattle.source_skip.specs.Skipped.{without}
use Rattle.skipped_sources.specs.Losing.{token_at}
use Rattle.skipped_sources.proofs.blanks.blank_each.Given as goal

abbrev pub invariant-loop-span : goal.invariant-loop-span
invariant-loop-span l = l.text ≡ without 0 (map token_at (take l.span-index l.spans)) l.initial.text
