use Rattle.proto_syntax.proofs.Common.{◌≡◌, length, Many, read, spellings}
use Rattle.proto_syntax.proofs.Loops.{Rows}
use Rattle.proto_syntax.proofs.parser.Parser.many.Given as goal

abbrev pub invariant-each : goal.invariant-each
invariant-each g l =
    Rows g.I.Parse.tree g.I.Parse.rule l.items.items (spellings l.self.rest.now) ≡ read (Many g.I.Parse.rule)
    (spellings l.initial.self.rest.now)

abbrev pub decreases-each : goal.decreases-each
decreases-each g l = length l.self.rest.now
