use Rattle.std.proofs.Common.{sym, ◌∙◌}
use Rattle.proto_syntax.proofs.Loops.{rows_more, fewer_left}
use Rattle.proto_syntax.proofs.parser.Parser.many.Goals as goal

pub each-preserved : goal.each-preserved
each-preserved g c = rw c.in_ok-push.ensures.items
    (rows_more g.I.Parse.tree g.I.Parse.rule c.each.items.items _ _ _ _ c.requires
    (sym c.is_next.ensures ∙ c.each-test.true) c.in_ok-item.ensures
    c.each.invariant)

pub each-smaller : goal.each-smaller
each-smaller g c = fewer_left g.I.Parse.rule _ _ _ c.requires c.in_ok-item.ensures
