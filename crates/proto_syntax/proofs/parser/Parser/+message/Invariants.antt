use Rattle.proto_syntax.proofs.Common.{◌+◌, ◌*◌, length, Many, ◌⨾◌, read, message_item_tree, spellings, symbol, message_item, message}
use Rattle.proto_syntax.proofs.Loops.{Turn, closed}
use Rattle.proto_syntax.proofs.parser.Parser.+message.Given as goal

abbrev pub decreases-message_body : goal.decreases-message_body
decreases-message_body l = 3 * l.depth + 2

abbrev pub decreases-message_item : goal.decreases-message_item
decreases-message_item l = 3 * l.depth + 1

abbrev pub decreases-message : goal.decreases-message
decreases-message l = 3 * l.depth

abbrev pub invariant-message_body-each : goal.invariant-message_body-each
invariant-message_body-each l = Turn message_item_tree (message_item (message l.depth)) (closed (symbol "}"))
    l.items.items (spellings l.self.rest.now)
    (read (Many (message_item (message l.fn.depth)) ⨾ symbol "}") (spellings l.fn.self.rest.now))

abbrev pub decreases-message_body-each : goal.decreases-message_body-each
decreases-message_body-each l = length l.self.rest.now
