use Rattle.std.proofs.Common.{◌≡◌, ◌∙◌, sym, arith, map-id, length, take}
use Rattle.std.proofs.lemmas.Iterator.Adapters.{YieldsList-from_vec}
use Rattle.std.proofs.lemmas.Iterator.Consumers.{YieldsList-so_far, YieldsList-turn}
use Rattle.schema_sources.proofs.Listing.{trouble_behind, well_more}
use Rattle.schema_sources.proofs.reading.all_read.Goals as goal

pub loop-outcome-preserved : goal.loop-outcome-preserved
loop-outcome-preserved c = rw c.in_ok-push-in-Ok.ensures.items
    (well_more c.loop-outcome.texts.items c.loop-outcome.yielded c.in-Ok.text c.in-Some.outcome c.loop-outcome.invariant
    c.in-Ok.is)

pub returns-in-Err-clause-first : goal.returns-in-Err-clause-first
returns-in-Err-clause-first c =
    let gives = c.into_iter-outcome-iterator.ensures.into_iter_gives in
    let all = YieldsList-from_vec c.args.outcomes.items gives.0 (omega (arith, gives.1)) in
    let l = c.loop-outcome in
    let so_far : l.yielded ≡ take (length l.yielded) c.args.outcomes.items =
    sym (map-id l.yielded) ∙ YieldsList-so_far all l.yielded l.outcome-iterator l.yielded_by in
    let turn = YieldsList-turn all l.yielded l.outcome-iterator l.yielded_by c.next.result c.next.new.self
    c.in-Some.outcome c.in-Some.is c.next.ensures.steps in
    trouble_behind c.args.outcomes.items (length l.yielded) l.texts.items c.in-Some.outcome c.in-Err.trouble
    (l.invariant ∙ so_far) turn.0 turn.1 c.in-Err.is
