use Rattle.std.proofs.Common.{◌≤◌, drop, length, map}
use Rattle.source_skip.specs.ProgramTokens.{spelled}
use Rattle.source_skip.proofs.Closing.{ClosesFrom}
use Rattle.source_skip.proofs.braces.closing_places.Given as goal

abbrev pub invariant-loop-at : goal.invariant-loop-at
invariant-loop-at l = (l.at ≤ length l.tokens) × ClosesFrom l.closes.items l.left (drop l.at (map spelled l.tokens))

abbrev pub decreases-loop-at : goal.decreases-loop-at
decreases-loop-at l = l.at
