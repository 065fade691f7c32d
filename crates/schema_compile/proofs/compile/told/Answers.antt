use Rattle.std.proofs.Common.{refl}
use Rattle.proto_compile.proofs.Placing.{placed}
use Rattle.proto_compile.specs.FaultSet.{told_by as named_by}
use Rattle.std.proofs.Common.{rules}
use Rattle.schema_compile.proofs.compile.told.Goals as goal

pub locate-requires-clause-within : goal.locate-requires-clause-within
locate-requires-clause-within c =
    let least = rw c.in-First.is at c.requires.1 in
    (placed c.requires.0 _ (named_by c.in-First.fault) least.among.breaks least.among.judged).within

pub locate-requires-clause-short : goal.locate-requires-clause-short
locate-requires-clause-short c =
    let least = rw c.in-First.is at c.requires.1 in
    let short = (placed c.requires.0 _ (named_by c.in-First.fault) least.among.breaks least.among.judged).short in
    search (rules, short)

pub returns-in-First : goal.returns-in-First
returns-in-First c limits first = rw c.locate.ensures (c.in-First.fault, refl, rw c.in-First.is at first)
