use Rattle.proto_syntax.proofs.Common.{arith, message_item_tree, symbol, message_item, message}
use Rattle.proto_syntax.proofs.Levels.{decided}
use Rattle.proto_syntax.proofs.Loops.{fewer_left, turn_first, turn_more, closes_fails, closes_end}
use Rattle.proto_syntax.proofs.parser.Parser.+message.Goals as goal

pub message_body-each-init : goal.message_body-each-init
message_body-each-init t c =
    turn_first message_item_tree _ (symbol "}") _ _ (decided c.args.depth).0 (grind arith)

pub message_body-each-smaller : goal.message_body-each-smaller
message_body-each-smaller t c = fewer_left (message_item (message c.args.depth)) _ _ _ c.each.invariant.has_tokens
    (rw c.in_default.ensures.1 at c.in_ok-item.ensures)

pub message_body-each-preserved : goal.message_body-each-preserved
message_body-each-preserved t c = rw c.in_ok-push.ensures.items
    (turn_more c.each.invariant _ _ (rw c.in_default.ensures.1 at c.in_ok-item.ensures))

pub message_body-returns-in_err-item : goal.message_body-returns-in_err-item
message_body-returns-in_err-item t c = grind (
  arith,
  closes_fails c.each.invariant c.in_default.ensures.0 _ _
      (rw c.in_default.ensures.1 at c.in_err-item.ensures),
)

pub message_body-returns-in-Some : goal.message_body-returns-in-Some
message_body-returns-in-Some t c =
    closes_end (symbol "}") _ (decided c.args.depth).0 c.each.invariant c.in-Some.ensures.0 c.in-Some.ensures.1
