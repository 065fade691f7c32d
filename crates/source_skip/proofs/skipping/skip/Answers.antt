use Rattle.std.proofs.Common.{arith, sym, ◌∙◌}
use Rattle.source_skip.specs.Pieces.{loose_tokens}
use Rattle.source_skip.specs.Skipped.{goes}
use Rattle.source_skip.proofs.Blanks.{without_more, without_none}
use Rattle.source_skip.proofs.skipping.skip.Goals as goal

pub loop-span-init : goal.loop-span-init
loop-span-init c = sym (without_none 0 c.args.text.now)

pub loop-span-preserved : goal.loop-span-preserved
loop-span-preserved c = without_more (goes (loose_tokens c.args.text.now)) c.deref-span-items.result.now
    c.loop-span.span-index _ c.args.text.now c.loop-span.text c.blank.new.text
    (c.deref-span-items.ensures.value ∙ c.in_ok-spans.ensures) (omega arith) c.loop-span.invariant c.blank.ensures
