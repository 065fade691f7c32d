use Rattle.source_search.proofs.Common.{◌-◌, All, List, take, IsClosed, IsSearch, is_asked, sources_of, NamedBytes}
use Rattle.source_search.proofs.search.Search.complete.Given as goal

abbrev pub invariant-loop-done : goal.invariant-loop-done
invariant-loop-done g l = record {
  searched : (given : List NamedBytes) → IsSearch l.limits (g.S.Shelf.texts l.shelf) given l.fn.self
      → IsSearch l.limits (g.S.Shelf.texts l.shelf) given l.self;
  closed : All (IsClosed l.limits (is_asked l.self)) (take l.done (sources_of l.self));
}

abbrev pub decreases-loop-done : goal.decreases-loop-done
decreases-loop-done g l = 1048576 - l.done
