use Rattle.source_search.proofs.Common.{take, flat_map, AsksFor, texts_in}
use Rattle.source_search.proofs.search.Search.ask_all.Given as goal

abbrev pub invariant-loop-names : goal.invariant-loop-names
invariant-loop-names g l = AsksFor l.limits (g.S.Shelf.texts l.shelf)
    (flat_map texts_in (take l.names-index l.lists)) l.fn.self l.self
