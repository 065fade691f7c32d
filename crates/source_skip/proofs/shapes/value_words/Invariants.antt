use Rattle.std.proofs.Common.{◌≡◌, length, map}
use Rattle.source_skip.specs.ProgramTokens.{spelled}
use Rattle.source_skip.specs.Shapes.{Many, behind, one_or_more, value_word}
use Rattle.source_skip.proofs.shapes.value_words.Given as goal

abbrev pub invariant-loop-behind : goal.invariant-loop-behind
invariant-loop-behind l =
    behind (Many value_word) (map spelled l.rest)
    ≡ behind (one_or_more value_word) (map spelled l.tokens)

abbrev pub decreases-loop-behind : goal.decreases-loop-behind
decreases-loop-behind l = length l.rest
