use Rattle.proto_syntax.proofs.Common.{length, Many, read, ended, statement_tree, spellings, statement, message}
use Rattle.proto_syntax.proofs.Loops.{Turn}
use Rattle.proto_syntax.proofs.parser.Parser.statements.Given as goal

abbrev pub invariant-each : goal.invariant-each
invariant-each l = Turn statement_tree (statement (message l.depth)) ended l.statements.items
    (spellings l.self.rest.now) (ended (read (Many (statement (message l.fn.depth))) (spellings l.fn.self.rest.now)))

abbrev pub decreases-each : goal.decreases-each
decreases-each l = length l.self.rest.now
