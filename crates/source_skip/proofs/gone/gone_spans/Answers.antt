use Rattle.std.proofs.Common.{map}
use Rattle.source_skip.specs.ProgramFronts.{front_of}
use Rattle.source_skip.specs.ProgramTokens.{spelled}
use Rattle.source_skip.proofs.Fronts.{front_smaller, spans_more, spans_start}
use Rattle.source_skip.proofs.gone.gone_spans.Goals as goal

pub loop-next-init : goal.loop-next-init
loop-next-init c = spans_start c.in_ok-closes.closes.items (map spelled c.args.tokens.now) _ _ c.in_ok-closes.ensures
    c.new-spans.ensures.items c.in_ok-next.ensures

pub loop-next-smaller-in_ok-next-2 : goal.loop-next-smaller-in_ok-next-2
loop-next-smaller-in_ok-next-2 c =
    front_smaller c.in_ok-next-2.next c.loop-next.next c.in-Some.front c.in_ok-next-2.ensures c.in-Some.is

pub loop-next-preserved-in_ok-next-2 : goal.loop-next-preserved-in_ok-next-2
loop-next-preserved-in_ok-next-2 c = spans_more c.in_ok-closes.closes.items (map spelled c.args.tokens.now)
    c.loop-next.spans.items c.push_gone.new.spans.items (front_of c.in-Some.front) _
    (rw c.in-Some.is at c.loop-next.invariant) c.in_ok-push_gone.ensures c.in_ok-next-2.ensures

pub loop-next-smaller : goal.loop-next-smaller
loop-next-smaller c =
    front_smaller c.in_ok-next-2.next c.loop-next.next c.in-Some.front c.in_ok-next-2.ensures c.in-Some.is

pub loop-next-preserved : goal.loop-next-preserved
loop-next-preserved c = spans_more c.in_ok-closes.closes.items (map spelled c.args.tokens.now)
    c.loop-next.spans.items c.push_gone.new.spans.items (front_of c.in-Some.front) _
    (rw c.in-Some.is at c.loop-next.invariant) c.in_ok-push_gone.ensures c.in_ok-next-2.ensures
