use Rattle.std.proofs.Common.{map, ◌∙◌}
use Rattle.source_skip.specs.ProgramTokens.{spelled}
use Rattle.source_skip.specs.Shapes.{further}
use Rattle.source_skip.proofs.Behind.{many_more, shorter_before, shorter_behind}
use Rattle.source_skip.proofs.shapes.custom_name.Goals as goal

pub loop-behind-preserved : goal.loop-behind-preserved
loop-behind-preserved c = many_more further (map spelled c.loop-behind.rest.now) (map spelled c.in-Some.behind.now)
    tt c.in-Some.ensures ∙ c.loop-behind.invariant

pub loop-behind-smaller : goal.loop-behind-smaller
loop-behind-smaller c = shorter_before spelled _ _ (shorter_behind further (map spelled c.loop-behind.rest.now)
    (map spelled c.in-Some.behind.now) tt c.in-Some.ensures)
