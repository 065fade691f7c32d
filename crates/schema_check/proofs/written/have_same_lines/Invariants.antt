use Rattle.std.proofs.Common.{◌≡◌, map, take}
use Rattle.source_skip.specs.Laws.{is_line_end}
use Rattle.schema_check.proofs.written.have_same_lines.Given as goal

abbrev pub invariant-loop-at : goal.invariant-loop-at
invariant-loop-at l = map is_line_end (take l.at l.shown) ≡ map is_line_end (take l.at l.text)
