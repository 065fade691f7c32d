use Rattle.source_search.proofs.Common.{map, take, string_bytes, AsksFor}
use Rattle.source_search.proofs.search.Search.ask_each.Given as goal

abbrev pub invariant-loop-name : goal.invariant-loop-name
invariant-loop-name g l = AsksFor l.limits (g.S.Shelf.texts l.shelf)
    (map string_bytes (take l.name-index l.names)) l.fn.self l.self
