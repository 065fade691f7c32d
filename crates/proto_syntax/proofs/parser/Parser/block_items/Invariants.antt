use Rattle.proto_syntax.proofs.Common.{length, Many, ◌⨾◌, read, spellings, symbol}
use Rattle.proto_syntax.proofs.Loops.{Turn, closed}
use Rattle.proto_syntax.proofs.parser.Parser.block_items.Given as goal

abbrev pub invariant-each : goal.invariant-each
invariant-each g l = Turn g.I.Parse.tree g.I.Parse.rule (closed (symbol "}")) l.items.items (spellings l.self.rest.now)
    (read (Many g.I.Parse.rule ⨾ symbol "}") (spellings l.fn.self.rest.now))

abbrev pub decreases-each : goal.decreases-each
decreases-each g l = length l.self.rest.now
