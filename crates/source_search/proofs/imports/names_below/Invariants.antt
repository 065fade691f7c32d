use Rattle.std.proofs.Common.{◌≡◌, map, take, string_bytes}
use Rattle.source_search.proofs.Importing.{below_of}
use Rattle.source_search.proofs.imports.names_below.Given as goal

abbrev pub invariant-loop-statement : goal.invariant-loop-statement
invariant-loop-statement l = map string_bytes l.names.items ≡ below_of (take l.statement-index l.statements)
