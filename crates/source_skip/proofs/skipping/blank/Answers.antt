use Rattle.source_skip.proofs.Blanks.{blanked_part}
use Rattle.source_skip.proofs.skipping.blank.Goals as goal

pub returns : goal.returns
returns c = blanked_part c.args.text.now c.fill.new.self c.args.span c.min-start.result c.min-end.result
    c.min-end.ensures c.min-start.ensures (c.fill.ensures.after (λ y h. h))
