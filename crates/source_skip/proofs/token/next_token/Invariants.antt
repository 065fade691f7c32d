use Rattle.std.proofs.Common.{◌≡◌, ◌≤◌, ◌-◌, length}
use Rattle.source_skip.specs.ProgramPieces.{tokens_behind}
use Rattle.source_skip.proofs.token.next_token.Given as goal

abbrev pub invariant-loop-len : goal.invariant-loop-len
invariant-loop-len l =
    (l.at ≤ length l.text) × (l.from ≤ l.at) × (tokens_behind l.text l.from ≡ tokens_behind l.text l.at)

abbrev pub decreases-loop-len : goal.decreases-loop-len
decreases-loop-len l = length l.text - l.at
