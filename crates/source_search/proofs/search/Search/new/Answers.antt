use Rattle.source_search.proofs.Common.{◌∙◌, List, ap, arith, take_all, contains_text, name_of, names_of, NamedText}
use Rattle.source_search.proofs.Asking.{put_name}
use Rattle.source_search.proofs.Naming.{among_more, is_among, started}
use Rattle.source_search.proofs.search.Search.new.Goals as goal

pub loop-source-preserved : goal.loop-source-preserved
loop-source-preserved c =
    among_more c.deref-source-items.result.now c.loop-source.source-index c.source-item.result
    (contains_text c.loop-source.asked)
    (contains_text c.insert.new.self) (omega arith) c.source-item.is c.loop-source.invariant
    (put_name (name_of c.source-item.result) c.in_ok-clone.field-0 c.loop-source.asked c.insert.new.self
    c.in_ok-clone.ensures.cases
    c.in_ok-insert.ensures.updates)

pub returns : goal.returns
returns c limits known = started limits known c.args.given.items (contains_text c.loop-source.asked) c.requires
    (λ name. c.loop-source.invariant name ∙ ap (λ (texts : List NamedText). is_among (names_of texts) name)
    (take_all c.loop-source.source-index c.deref-source-items.result.now (omega arith)
    ∙ c.deref-source-items.ensures.value))
