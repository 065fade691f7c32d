use Rattle.std.proofs.Common.{◌≡◌, length, map}
use Rattle.source_skip.specs.ProgramTokens.{spelled}
use Rattle.source_skip.specs.Shapes.{Many, behind, full, part}
use Rattle.source_skip.proofs.shapes.full_name.Given as goal

abbrev pub invariant-loop-behind : goal.invariant-loop-behind
invariant-loop-behind l = behind (Many part) (map spelled l.rest) ≡ behind (full) (map spelled l.tokens)

abbrev pub decreases-loop-behind : goal.decreases-loop-behind
decreases-loop-behind l = length l.rest
