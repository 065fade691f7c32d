use Rattle.proto_syntax.proofs.Common.{arith, symbol}
use Rattle.proto_syntax.proofs.Loops.{fewer_left, turn_more, closes_fails, closes_end}
use Rattle.proto_syntax.proofs.parser.Parser.block_items.Goals as goal

pub each-smaller : goal.each-smaller
each-smaller g c = fewer_left g.I.Parse.rule _ _ _ c.each.invariant.has_tokens
    (rw c.in_default.ensures.1 at c.in_ok-item.ensures)

pub each-preserved : goal.each-preserved
each-preserved g c = rw c.in_ok-push.ensures.items
    (turn_more c.each.invariant _ _ (rw c.in_default.ensures.1 at c.in_ok-item.ensures))

pub returns-in_err-item : goal.returns-in_err-item
returns-in_err-item g c = grind (
  arith,
  closes_fails c.each.invariant c.in_default.ensures.0 _ _
      (rw c.in_default.ensures.1 at c.in_err-item.ensures),
)

pub returns-in-Some : goal.returns-in-Some
returns-in-Some g c =
    closes_end (symbol "}") _ c.requires c.each.invariant c.in-Some.ensures.0 c.in-Some.ensures.1
