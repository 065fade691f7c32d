use Rattle.source_search.proofs.Common.{length-map, ◌≡◌, ◌∙◌, ◌-◌, List, ap, arith, drop, length, length-drop, take, take_all, flat_map, NamedText, AsksFor, sources_of, texts_in, named_bytes}
use Rattle.source_search.proofs.Asking.{Lists, round_closed, round_searched}
use Rattle.source_search.proofs.search.Search.complete.Goals as goal

pub loop-done-preserved : goal.loop-done-preserved
loop-done-preserved g c =
    let known = g.S.Shelf.texts c.args.shelf.now in
    let limits = c.args.limits.now in
    let old = c.loop-done.self in
    let new = c.ask_all.new.self in
    let lists : Lists = c.in_ok-lists.lists.items in
    let done = c.loop-done.done in
    let texts : List NamedText = c.deref.result.now in
    let sources : List NamedText = take (length texts - done) (drop done texts) in
    let some : sources ≡ drop done old.sources.items =
    take_all (length texts - done) (drop done texts) (omega (arith, length-drop done texts))
    ∙ ap (drop done) c.deref.ensures.value in
    let asks : AsksFor limits known (flat_map texts_in lists) old new =
    rw c.deref-in-loop-done.ensures.value at c.in_ok-ask_all.ensures in
    record {
      searched = λ given s. round_searched limits known old new sources lists done some c.in_ok-lists.ensures asks given
          (c.loop-done.invariant.searched given s);
      closed = round_closed limits known old new sources lists done some c.in_ok-lists.ensures asks c.len-count.result
          (omega (arith, c.len-count.ensures, old.sources.ok)) c.loop-done.invariant.closed;
    }

pub returns-clause-closed : goal.returns-clause-closed
returns-clause-closed g c =
    let sources = c.loop-done.self.sources in
    let len = length-map sources.items named_bytes in
    rw (take_all c.loop-done.done (sources_of c.loop-done.self) (omega (arith, c.len.ensures, sources.ok)))
    at c.loop-done.invariant.closed
