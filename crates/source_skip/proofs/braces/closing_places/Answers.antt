use Rattle.std.proofs.Common.{arith, drop, map, sym, ◌∙◌}
use Rattle.source_skip.specs.ProgramTokens.{spelled}
use Rattle.source_skip.proofs.Closing.{placed_closes, placed_never, placed_opens, placed_other, pushed_within}
use Rattle.source_skip.proofs.braces.closing_places.Goals as goal

pub index-requires : goal.index-requires
index-requires c = let h = c.push.new.self.ok.0 in rw h (pushed_within c.loop-at.closes.items c.push.new.self.items
    c.loop-at.left (drop c.loop-at.at (map spelled c.args.tokens.now)) c.loop-at.invariant.1
    c.in_ok-push.ensures.items c.in-Some.left c.in-Some.is)

pub loop-at-preserved-in-Some : goal.loop-at-preserved-in-Some
loop-at-preserved-in-Some c = placed_opens spelled c.args.tokens.now c.loop-at.at _ c.loop-at.closes.items
    c.push.new.self.items c.loop-at.left (omega arith) c.loop-at.invariant c.in_ok-push.ensures.items c.in-Some.left
    c.index.result.now (sym c.is_symbol.ensures ∙ c.if-is_symbol.true) c.in-Some.is c.index.ensures

pub loop-at-preserved-in-None : goal.loop-at-preserved-in-None
loop-at-preserved-in-None c = placed_never spelled c.args.tokens.now c.loop-at.at _ c.loop-at.closes.items
    c.push.new.self.items c.loop-at.left (omega arith) c.loop-at.invariant c.in_ok-push.ensures.items
    (sym c.is_symbol.ensures ∙ c.if-is_symbol.true) c.in-None.is

pub loop-at-preserved-then-is_symbol-2 : goal.loop-at-preserved-then-is_symbol-2
loop-at-preserved-then-is_symbol-2 c =
    let h = c.loop-at.closes.ok.0 in
    rw (c.len-behind.ensures, h) (placed_closes spelled c.args.tokens.now c.loop-at.at _
    c.loop-at.closes.items c.push.new.self.items c.loop-at.left (omega arith) c.loop-at.invariant
    c.in_ok-push.ensures.items (sym c.is_symbol.ensures ∙ c.if-is_symbol.false)
    (sym c.is_symbol-else-is_symbol.ensures ∙ c.if-is_symbol-2.true))

pub loop-at-preserved : goal.loop-at-preserved
loop-at-preserved c = placed_other spelled c.args.tokens.now c.loop-at.at _ c.loop-at.closes.items
    c.push.new.self.items c.loop-at.left (omega arith) c.loop-at.invariant c.in_ok-push.ensures.items
    (sym c.is_symbol.ensures ∙ c.if-is_symbol.false) (sym c.is_symbol-else-is_symbol.ensures ∙ c.if-is_symbol-2.false)
