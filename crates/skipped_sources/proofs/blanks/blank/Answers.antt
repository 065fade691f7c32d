use Rattle.std.proofs.Common.{◌≡◌, ◌-◌, arith, replicate}
use Rattle.std.proofs.lemmas.List.{places}
use Rattle.skipped_sources.specs.Losing.{token_at}
use Rattle.skipped_sources.proofs.Blanking.{one_gone}
use Rattle.skipped_sources.proofs.blanks.blank.Goals as goal

pub returns : goal.returns
returns c =
    let start = c.min-start.result in
    let end = c.min-end.result in
    let text = c.args.text.now in
    let filled : c.fill.new.self ≡ replicate (end - start) 32 =
    grind (arith, places, c.fill.ensures.after (λ y is. is)) in
    rw filled (one_gone text (token_at c.args.span.now) start end c.min-end.ensures c.min-start.ensures)
