use Rattle.source_search.proofs.Naming.{permuted_differ, sorted_rise}
use Rattle.source_search.proofs.Asking.{all_wanted, given_held, if_known}
use Rattle.source_search.proofs.sources.with_imports.Goals as goal

pub returns-clause-order : goal.returns-clause-order
returns-clause-order g c =
    sorted_rise c.sort_by_name.new.sources.items c.sort_by_name.ensures.order (permuted_differ _ _
    (rw c.into_sources-sources.ensures at c.sort_by_name.ensures.same)
    (c.in_ok-complete.ensures.searched _ (c.in_ok-search.ensures c.args.limits.now
    (g.S.Shelf.texts c.args.shelf.now))).once)

pub returns-clause-given : goal.returns-clause-given
returns-clause-given g c =
    let known = g.S.Shelf.texts c.args.shelf.now in
    given_held c.args.limits.now known _ c.complete.new.self
    (c.in_ok-complete.ensures.searched _ (c.in_ok-search.ensures c.args.limits.now known)) _
    (rw c.into_sources-sources.ensures at c.sort_by_name.ensures.same)

pub returns-clause-least : goal.returns-clause-least
returns-clause-least g c =
    let known = g.S.Shelf.texts c.args.shelf.now in
    if_known known _ (λ lookup at. all_wanted c.args.limits.now known _ c.complete.new.self
    (c.in_ok-complete.ensures.searched _ (c.in_ok-search.ensures c.args.limits.now known)) _
    (rw c.into_sources-sources.ensures at c.sort_by_name.ensures.same) lookup at c.in_ok-complete.ensures.closed)
