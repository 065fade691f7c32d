use Rattle.std.proofs.Common.{◌≡◌, length, map}
use Rattle.proto_syntax.specs.Grammar.{AnyString}
use Rattle.source_skip.specs.ProgramTokens.{spelled}
use Rattle.source_skip.specs.Shapes.{Many, behind, One, one_or_more}
use Rattle.source_skip.proofs.shapes.texts.Given as goal

abbrev pub invariant-loop-behind : goal.invariant-loop-behind
invariant-loop-behind l =
    behind (Many (One AnyString)) (map spelled l.rest)
    ≡ behind (one_or_more (One AnyString)) (map spelled l.tokens)

abbrev pub decreases-loop-behind : goal.decreases-loop-behind
decreases-loop-behind l = length l.rest
