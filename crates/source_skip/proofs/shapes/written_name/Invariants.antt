use Rattle.std.proofs.Common.{◌≡◌, length, map}
use Rattle.source_skip.specs.ProgramTokens.{spelled, words_of}
use Rattle.source_skip.specs.Shapes.{Many, behind, further, written_name}
use Rattle.source_skip.proofs.shapes.written_name.Given as goal

abbrev pub invariant-loop-behind : goal.invariant-loop-behind
invariant-loop-behind l =
    behind (Many further) (map spelled l.rest)
    ≡ behind (written_name (words_of l.fn.position)) (map spelled l.tokens)

abbrev pub decreases-loop-behind : goal.decreases-loop-behind
decreases-loop-behind l = length l.rest
