use Rattle.std.proofs.Common.{map, ◌∙◌}
use Rattle.source_skip.specs.ProgramTokens.{spelled}
use Rattle.source_skip.specs.Shapes.{value_word}
use Rattle.source_skip.proofs.Behind.{many_more}
use Rattle.source_skip.proofs.shapes.value_words.Goals as goal

pub loop-behind-preserved : goal.loop-behind-preserved
loop-behind-preserved c = many_more value_word (map spelled c.loop-behind.rest.now) (map spelled c.in-Some.behind.now)
    (tt, (tt, (tt, (tt, tt)))) c.in-Some.ensures ∙ c.loop-behind.invariant
